-- What tables hash by. (SipHash-1-3, Aumasson and Bernstein 2012; its use is our own.)
use Rattle.std.specs.Prelude.{ℕ, List}
use Rattle.std.specs.Hash.DefaultHasher as sip
use Rattle.std.specs.declared.hash.DefaultHasher.{DefaultHasher}

-- a hash that is begun with a digest
abbrev pub seeded : List ℕ → DefaultHasher
seeded digest = sip.write sip.initial digest
