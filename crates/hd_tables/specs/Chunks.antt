-- A list in chunks, and how contracts see it. (Our own.)
use Rattle.std.specs.Prelude.{◌≡◌, ℕ, ◌-◌, ◌≤◌, min, List, [], ◌∷◌, length, flat_map, Vec, vec_capacity}
use Rattle.hd_tables.specs.declared.chunks.TheConstants.{CHUNK}

-- a list: its items, and how many can be pushed to it without asking for memory
pub record ChunksView (T : Type 0) : Type 0 where
  pub items : List T
  pub room : ℕ

-- the items of chunks, one chunk after the other
abbrev pub items_in : {T Z : Type 0} → List (Vec T Z) → List T
items_in {T} {Z} chunks = flat_map (λ (c : Vec T Z). c.items) chunks

-- pieces, each of some items, hold n of them: each is full while items are left, and is large
-- enough
abbrev pub ArePieces : {C T : Type 0} → (C → List T) → (C → Type 0) → ℕ → List C → Type 0
ArePieces of large n [] = n ≡ 0
ArePieces of large n (c ∷ cs) = (length (of c) ≡ min n CHUNK) × large c × ArePieces of large (n - CHUNK) cs

-- the items of a chunk
abbrev pub items_of : {T Z : Type 0} → Vec T Z → List T
items_of chunk = chunk.items

-- a chunk has the memory of a full one
abbrev pub IsLarge : {T Z : Type 0} → Vec T Z → Type 0
IsLarge chunk = CHUNK ≤ vec_capacity chunk

-- chunks hold n items: each is full while items are left, and has the memory of a full one
abbrev pub AreChunks : {T Z : Type 0} → ℕ → List (Vec T Z) → Type 0
AreChunks {T} {Z} n chunks = ArePieces (λ (c : Vec T Z). items_of c) (λ (c : Vec T Z). IsLarge c) n chunks
