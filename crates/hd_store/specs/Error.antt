-- How errors are printed. (Our own.)
use Rattle.std.specs.Prelude.{ℕ, List, codes}
use Rattle.hd_store.specs.declared.error.StoreError.{StoreError}
use Rattle.hd_store.specs.declared.error.StoreError.TheVariants.{NoMemory, Failed}

-- the printed form: the refusal's number and its name (a rule of this project)
abbrev pub text_of : StoreError → List ℕ
text_of NoMemory = codes "NoMemory"
text_of Failed = codes "35 Device"
