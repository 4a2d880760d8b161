-- A full block whose states come to share bytes.
use Rattle.std.proofs.Common.{◌≡◌, ℕ, ◌+◌, ◌<◌, true, List, [], ◌∷◌, ◌++◌, Option, None, Some, length, take, get_or, refl, sym, ap, ap₂, ◌∙◌, subst, add-one, arith}
use Rattle.std.proofs.lemmas.List.{take_more}
use Rattle.std.proofs.lemmas.Option.{get_or_from_slice_get}
use Rattle.hd_task.specs.declared.state.State.{State}
use Rattle.hd_pack.specs.Packing.{unpacked}
use Rattle.hd_pack.specs.Splitting.{agrees, merged, own_bytes, own_width, AreInside}
use Rattle.hd_pack.proofs.Splitting.{inside_as, merged_own, length-own, within_own}
use Rattle.hd_tables.specs.declared.block.Block.{Block}
use Rattle.hd_tables.specs.declared.block.Pattern.{Pattern}
use Rattle.hd_tables.specs.Rows.{row_in, states_in, AreRows, IsWhole}
use Rattle.hd_tables.specs.Widths.{Widths, state_width}
use Rattle.hd_tables.specs.Blocks.{row_state, row_width, states_of, IsStateRow, IsBlock}
use Rattle.hd_tables.proofs.Packed.{rows_count, rows_push, states_push, row_fits, row_there, row_length}
use Rattle.hd_tables.proofs.BlockRows.{row_reach}

module _ (w : Widths) (b : Block) (s : Pattern) (block : IsBlock w b) (none : b.pattern ≡ None) (inside : AreInside s.segments.items s.base.items) (base : length s.base.items ≡ state_width w) (width : s.width ≡ own_width s.segments.items) (place : ℕ) (lt : place < b.count) where
  abbrev pub row : List ℕ
  row = row_in (state_width w) b.bytes.items place

  pub row_long : length row ≡ state_width w
  row_long = row_length (state_width w) b.bytes.items place (row_reach w b place (state_width w) None block lt none refl)

  row_whole : IsWhole w.atoms w.fluents row
  row_whole =
      (subst (λ (o : Option Pattern). IsStateRow w o (row_in (row_width w o) b.bytes.items place)) none
      (row_fits (IsStateRow w b.pattern) (row_width w b.pattern) b.bytes.items b.count place block.rows lt)).whole

  state_there : (d : State) → get_or (states_of w b) place d ≡ unpacked w.atoms row
  state_there d =
      get_or_from_slice_get (states_of w b) place (unpacked w.atoms row) d
      (row_there (row_state w b.pattern) (row_width w b.pattern) b.bytes.items b.count place lt
      ∙ ap (λ (o : Option Pattern). Some (row_state w o (row_in (row_width w o) b.bytes.items place))) none)

  pub same_long : length row ≡ length s.base.items
  same_long = row_long ∙ sym base

  module _ (agree : agrees s.segments.items s.base.items row ≡ true) where
    joined_row : merged s.segments.items s.base.items (own_bytes s.segments.items row) ≡ row
    joined_row = merged_own s.segments.items s.base.items row inside same_long agree

    own_fits : IsStateRow w (Some s) (own_bytes s.segments.items row)
    own_fits = record {
      split = within_own s.segments.items s.base.items row inside same_long;
      whole = subst (IsWhole w.atoms w.fluents) (sym joined_row) row_whole;
    }

    own_long : length (own_bytes s.segments.items row) ≡ s.width
    own_long = length-own s.segments.items row (inside_as s.segments.items s.base.items row same_long inside) ∙ sym width

    module _ (bytes bytes' : List ℕ) (more : bytes' ≡ bytes ++ own_bytes s.segments.items row) (rows : AreRows (IsStateRow w (Some s)) s.width bytes place) where
      pub rows_more : AreRows (IsStateRow w (Some s)) s.width bytes' (place + 1)
      rows_more =
          subst (λ (xs : List ℕ). AreRows (IsStateRow w (Some s)) s.width xs (place + 1)) (sym more)
          (subst (AreRows (IsStateRow w (Some s)) s.width (bytes ++ own_bytes s.segments.items row)) (sym (add-one place))
          (rows_push (IsStateRow w (Some s)) s.width bytes (own_bytes s.segments.items row) place rows own_long own_fits))

      pub states_more :
          states_in (row_state w (Some s)) s.width bytes place ≡ take place (states_of w b)
          → states_in (row_state w (Some s)) s.width bytes' (place + 1) ≡ take (place + 1) (states_of w b)
      states_more so_far =
          let d : State = record { atoms = []; fluents = [] } in
          let count = rows_count (row_state w b.pattern) (row_width w b.pattern) b.bytes.items b.count in
          ap₂ (λ (xs : List ℕ) (n : ℕ). states_in (row_state w (Some s)) s.width xs n) more (add-one place)
          ∙ (states_push (IsStateRow w (Some s)) (row_state w (Some s)) s.width bytes (own_bytes s.segments.items row) place rows own_long
          ∙ (ap₂ (λ (ss : List State) (u : State). ss ++ u ∷ []) so_far (ap (unpacked w.atoms) joined_row ∙ sym (state_there d))
          ∙ sym (take_more (states_of w b) place d (omega (arith, count, lt)))))
