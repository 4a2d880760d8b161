-- The digest of a task's texts. (SHA-256 is that of FIPS 180-4; what it is taken of is our own.)
use Rattle.std.specs.Prelude.{ℕ, List, ◌++◌, length}
use Rattle.std.specs.Int.{w64, to_le_bytes}
use Rattle.sha2.specs.Sha256.{sha256}

-- of the domain's length in 8 bytes, the lowest first, the domain's bytes and the problem's
abbrev pub digest_of : List ℕ → List ℕ → List ℕ
digest_of domain problem = sha256 ((to_le_bytes w64 (length domain) ++ domain) ++ problem)
