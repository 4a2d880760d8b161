-- Files in memory. (Our own.)
use Rattle.std.specs.Prelude.{◌≡◌, ℕ, ◌+◌, List, [], ◌∷◌, Option, Some, None, IfSome, if◌then◌else◌, map, option_map, String, string_bytes}
use Rattle.std.specs.Str.{bytes_eq}
use Rattle.std.specs.declared.io.ErrorKind.{ErrorKind}
use Rattle.std.specs.declared.io.ErrorKind.TheVariants.{OutOfMemory}
use Rattle.hd_store.specs.declared.error.StoreError.{StoreError}
use Rattle.hd_store.specs.declared.error.StoreError.TheVariants.{NoMemory}
use Rattle.hd_store.specs.declared.memory.MemoryDisk.{MemoryDisk}
use Rattle.hd_store.specs.MemoryDisk.{device_of}
use Rattle.hd_store.specs.Device.{content_of}

-- why a file is not read: where its bytes are known, memory ran out
abbrev pub MissesFile : Option (List ℕ) → ErrorKind → Type 0
MissesFile file kind = IfSome file (λ bytes. kind ≡ OutOfMemory)

-- why a file is not lent: where its bytes are known, memory ran out
abbrev pub KeepsFile : Option (List ℕ) → StoreError → Type 0
KeepsFile file error = IfSome file (λ bytes. error ≡ NoMemory)

-- files as names with their bytes
abbrev pub files_shown : {A : Type 0} → List (String A × MemoryDisk) → List (List ℕ × List ℕ)
files_shown = map (λ f. (string_bytes f.0, content_of (device_of f.1)))

-- the bytes of the first file of this name
abbrev pub file_in : List (List ℕ × List ℕ) → List ℕ → Option (List ℕ)
file_in [] name = None
file_in (f ∷ fs) name = if bytes_eq f.0 name then Some f.1 else file_in fs name

-- its place
abbrev pub place_in : List (List ℕ × List ℕ) → List ℕ → Option ℕ
place_in [] name = None
place_in (f ∷ fs) name = if bytes_eq f.0 name then Some 0 else option_map (λ place. place + 1) (place_in fs name)
