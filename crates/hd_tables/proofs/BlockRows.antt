-- Blocks of rows: the state at a place, and one more.
use Rattle.std.proofs.Common.{◌≡◌, ℕ, zero, suc, ◌+◌, ◌-◌, ◌*◌, ◌/◌, ◌%◌, ◌<◌, ◌≤◌, List, [], ◌∷◌, ◌++◌, Option, Some, length, get_or, set, slice_get, refl, sym, ap, ap₂, ◌∙◌, subst, add-one, arith, length-set}
use Rattle.std.specs.Prelude.{flat_map, vec_capacity}
use Rattle.std.specs.Int.{w64}
use Rattle.std.specs.Int.RustNames.{FitsSigned}
use Rattle.std.specs.List.{AllByRecursion}
use Rattle.std.proofs.Math.Nat.{mul-le-mul_right}
use Rattle.std.proofs.lemmas.Option.{slice_get-get_or}
use Rattle.hd_task.specs.declared.state.State.{State}
use Rattle.hd_pack.specs.Packing.{packed_bytes}
use Rattle.hd_task.specs.declared.task.TheConstants.{MAX_ATOMS, MAX_FLUENTS}
use Rattle.hd_pack.proofs.Packings.{Parts, state_of, length-bytes}
use Rattle.hd_tables.specs.declared.chunks.TheConstants.{CHUNK}
use Rattle.hd_tables.proofs.Filling.{length-items_in, item_within, item_read, next_within, items_pushed, chunks_pushed}
use Rattle.hd_tables.specs.declared.block.Block.{Block}
use Rattle.hd_tables.specs.declared.block.Pattern.{Pattern}
use Rattle.hd_tables.specs.Chunks.{ArePieces}
use Rattle.hd_pack.specs.Splitting.{AreWithin}
use Rattle.hd_tables.specs.Rows.{row_in, states_in, AreRows}
use Rattle.hd_tables.specs.Widths.{Widths, HasWidths, state_width}
use Rattle.hd_tables.specs.Blocks.{BlocksView, row_state, row_width, states_of, FitsPattern, IsStateRow, IsGrowing, IsBlock, AreBlocks}
use Rattle.hd_tables.proofs.Packed.{rows_count, rows_length, row_within, row_fits, rows_push, states_push, parts_given, whole_of}

-- a place among the states is one among so many
pub place_among :
    (w : Widths) (n : ℕ) (bs : List Block) (room place : ℕ) (v : BlocksView) → (let r : BlocksView = record { widths = w; states = flat_map (states_of w) bs; room = room } in r) ≡ v → AreBlocks w n bs
    → place < length v.states → place < n
place_among w n bs room place v is all lt =
    let e = ap (λ (x : BlocksView). length x.states) is in
    let count = length-items_in (states_of w) (IsBlock w) bs n all.pieces in
    omega (arith, e, count, lt)

-- a state is read in its block
pub state_read :
    (w : Widths) (n place : ℕ) (bs : List Block) (b : Block) → AreBlocks w n bs → place < n → b ≡ get_or bs (place / CHUNK) b
    → slice_get (flat_map (states_of w) bs) place ≡ slice_get (states_of w b) (place % CHUNK)
state_read w n place bs b all lt at =
    let d : State = record { atoms = []; fluents = [] } in
    let count = length-items_in (states_of w) (IsBlock w) bs n all.pieces in
    let within = (item_within (states_of w) (IsBlock w) bs n place b all.pieces lt).1 in
    slice_get-get_or (flat_map (states_of w) bs) place d (omega (arith, count, lt))
    ∙ (ap (λ (s : State). Some s) (item_read (states_of w) (IsBlock w) bs n place d b all.pieces lt)
    ∙ (sym (slice_get-get_or (states_of w (get_or bs (place / CHUNK) b)) (place % CHUNK) d within)
    ∙ ap (λ (c : Block). slice_get (states_of w c) (place % CHUNK)) (sym at)))

-- where the bytes of a block's state stand
pub row_reach :
    (w : Widths) (b : Block) (place width : ℕ) (pattern : Option Pattern) → IsBlock w b → place < b.count → b.pattern ≡ pattern → width ≡ row_width w pattern → place * width + width ≤ length b.bytes.items
row_reach w b place width pattern block lt is long =
    subst (λ (k : ℕ). place * k + k ≤ length b.bytes.items) (ap (row_width w) is ∙ sym long)
    (row_within (IsStateRow w b.pattern) (row_width w b.pattern) b.bytes.items b.count place block.rows lt)

pub row_split :
    (w : Widths) (b : Block) (place : ℕ) (s : Pattern) → IsBlock w b → place < b.count → b.pattern ≡ Some s → AreWithin s.segments.items s.base.items (row_in s.width b.bytes.items place)
row_split w b place s block lt is =
    subst (λ (o : Option Pattern). FitsPattern o (row_in (row_width w o) b.bytes.items place)) is
    (row_fits (IsStateRow w b.pattern) (row_width w b.pattern) b.bytes.items b.count place block.rows lt).split

-- a block that is not full has memory for one more
room_for : (count width long room : ℕ) → count < CHUNK → long ≡ count * width → CHUNK * width ≤ room → long + width ≤ room
room_for count width long room lt is large =
    let few : suc count ≤ CHUNK = omega (arith, lt) in
    let product = mul-le-mul_right width few in
    omega (arith, product, is, large)

-- ---- one more

module _ (w : Widths) (n : ℕ) (bs : List Block) (b : Block) (s : State) (all : AreBlocks w n bs) (lt : n < CHUNK * length bs) (at : b ≡ get_or bs (n / CHUNK) b) (has : HasWidths w s) (few_atoms : w.atoms ≤ MAX_ATOMS) (few_fluents : w.fluents ≤ MAX_FLUENTS) (fit : AllByRecursion (FitsSigned w64) s.fluents) where
  next : (n / CHUNK < length bs) × (length (states_of w b) ≡ n % CHUNK) × IsBlock w b
  next =
      let there = next_within (states_of w) (IsBlock w) bs n b all.pieces lt in
      (there.0, ap (λ (c : Block). length (states_of w c)) at ∙ there.1, subst (IsBlock w) (sym at) there.2)

  parts : Parts w.atoms (packed_bytes s) s
  parts = parts_given w.atoms s has.atoms fit

  state_bytes : length (packed_bytes s) ≡ state_width w
  state_bytes = let e = length-bytes w.atoms (packed_bytes s) s parts in let f = has.fluents in omega (arith, e, f)

  pub next_count : b.count ≡ n % CHUNK
  next_count = sym (rows_count (row_state w b.pattern) (row_width w b.pattern) b.bytes.items b.count) ∙ next.1

  has_room : IsGrowing w b
  has_room = next.2.room (omega (arith, next_count))

  row_long : row_width w b.pattern ≡ state_width w
  row_long = ap (row_width w) has_room.whole

  row_bytes : length (packed_bytes s) ≡ row_width w b.pattern
  row_bytes = state_bytes ∙ sym row_long

  pub next_room : length b.bytes.items + length (packed_bytes s) ≤ vec_capacity b.bytes
  next_room =
      let few : b.count < CHUNK = omega (arith, next_count) in
      let long = rows_length (IsStateRow w b.pattern) (row_width w b.pattern) b.bytes.items b.count next.2.rows in
      subst (λ (k : ℕ). length b.bytes.items + k ≤ vec_capacity b.bytes) (sym state_bytes)
      (room_for b.count (state_width w) (length b.bytes.items) (vec_capacity b.bytes) few (long ∙ ap (λ (k : ℕ). b.count * k) row_long) has_room.large)

  state_fits : IsStateRow w b.pattern (packed_bytes s)
  state_fits = subst (λ (o : Option Pattern). IsStateRow w o (packed_bytes s)) (sym has_room.whole) (record {
    split = tt;
    whole = whole_of w.atoms w.fluents (packed_bytes s) s parts has.fluents few_atoms few_fluents;
  })

  module _ (b' : Block) (bytes : b'.bytes.items ≡ b.bytes.items ++ packed_bytes s) (pattern : b'.pattern ≡ b.pattern) (count : b'.count ≡ b.count + 1) (capacity : vec_capacity b.bytes ≤ vec_capacity b'.bytes) where
    pushed_states : states_of w b' ≡ states_of w b ++ s ∷ []
    pushed_states =
        ap (λ (o : Option Pattern). states_in (row_state w o) (row_width w o) b'.bytes.items b'.count) pattern
        ∙ (ap₂ (λ (xs : List ℕ) (k : ℕ). states_in (row_state w b.pattern) (row_width w b.pattern) xs k) bytes (count ∙ add-one b.count)
        ∙ (states_push (IsStateRow w b.pattern) (row_state w b.pattern) (row_width w b.pattern) b.bytes.items (packed_bytes s) b.count next.2.rows row_bytes
        ∙ ap (λ (u : State). states_of w b ++ u ∷ []) (ap (λ (o : Option Pattern). row_state w o (packed_bytes s)) has_room.whole ∙ state_of w.atoms (packed_bytes s) s parts)))

    pushed_block : IsBlock w b'
    pushed_block = record {
      rows = subst (λ (o : Option Pattern). AreRows (IsStateRow w o) (row_width w o) b'.bytes.items b'.count) (sym pattern)
          (subst (λ (xs : List ℕ). AreRows (IsStateRow w b.pattern) (row_width w b.pattern) xs b'.count) (sym bytes)
          (subst (λ (k : ℕ). AreRows (IsStateRow w b.pattern) (row_width w b.pattern) (b.bytes.items ++ packed_bytes s) k) (sym (count ∙ add-one b.count))
          (rows_push (IsStateRow w b.pattern) (row_width w b.pattern) b.bytes.items (packed_bytes s) b.count next.2.rows row_bytes state_fits)));
      room = λ few. record { whole = pattern ∙ has_room.whole; large = (let l = has_room.large in omega (arith, l, capacity)) };
    }

    pub blocks_pushed : AreBlocks w (n + 1) (set bs (n / CHUNK) b')
    blocks_pushed = record {
      pieces = chunks_pushed (states_of w) (IsBlock w) bs n b' all.pieces lt
          (let more = rows_count (row_state w b'.pattern) (row_width w b'.pattern) b'.bytes.items b'.count in omega (arith, more, count, next_count)) pushed_block;
      few = (let f = all.few in let same = length-set bs (n / CHUNK) b' in omega (arith, f, same));
    }

    pub flat_pushed : flat_map (states_of w) (set bs (n / CHUNK) b') ≡ flat_map (states_of w) bs ++ s ∷ []
    flat_pushed = items_pushed (states_of w) (IsBlock w) bs n b b' s all.pieces lt (pushed_states ∙ ap (λ (c : Block). states_of w c ++ s ∷ []) at)

-- ---- another block of the same states

module _ (w : Widths) (b' e : Block) (block : IsBlock w b') where
  pub blocks_replaced : (bs : List Block) (n k : ℕ) → ArePieces (states_of w) (IsBlock w) n bs → states_of w b' ≡ states_of w (get_or bs k e) → ArePieces (states_of w) (IsBlock w) n (set bs k b')
  blocks_replaced [] n k h same = h
  blocks_replaced (c ∷ cs) n zero h same = (ap (λ (ss : List State). length ss) same ∙ h.0, block, h.2)
  blocks_replaced (c ∷ cs) n (suc k) h same = (h.0, h.1, blocks_replaced cs (n - CHUNK) k h.2 same)

  pub flat_replaced : (bs : List Block) (k : ℕ) → states_of w b' ≡ states_of w (get_or bs k e) → flat_map (states_of w) (set bs k b') ≡ flat_map (states_of w) bs
  flat_replaced [] k same = refl
  flat_replaced (c ∷ cs) zero same = ap (λ (ss : List State). ss ++ flat_map (states_of w) cs) same
  flat_replaced (c ∷ cs) (suc k) same = ap (λ (ss : List State). states_of w c ++ ss) (flat_replaced cs k same)

pub block_at : (w : Widths) (bs : List Block) (n k : ℕ) (b : Block) → ArePieces (states_of w) (IsBlock w) n bs → k < length bs → b ≡ get_or bs k b → IsBlock w b
block_at w [] n k b h lt at = absurd (omega (arith, lt))
block_at w (c ∷ cs) n zero b h lt at = subst (IsBlock w) (sym at) h.1
block_at w (c ∷ cs) n (suc k) b h lt at = block_at w cs (n - CHUNK) k b h.2 (omega (arith, lt)) at
