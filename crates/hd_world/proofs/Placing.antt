-- Groups are reported by their entries with their places.
use Rattle.std.proofs.Common.{◌≡◌, ◌≢◌, ℕ, ◌+◌, ◌*◌, ◌≤◌, List, [], ◌∷◌, ◌++◌, length, drop, refl, sym, ap, ap₂, ◌∙◌, arith}
use Rattle.std.proofs.Math.Nat.{mul-suc}
use Rattle.std.specs.List.{AllByRecursion}
use Rattle.hd_task.specs.declared.plan.Kid.{Kid}
use Rattle.hd_image.specs.declared.version.Version.{Version}
use Rattle.hd_image.specs.declared.entry.Entry.{Entry}
use Rattle.hd_image.specs.Image.{IsGroup, opened, entry_width, entries_of, entries_in}
use Rattle.hd_image.proofs.Joining.{length-counted}
use Rattle.hd_journal.specs.Journal.{kid_of}

-- ---- parts of a list of entries

abbrev first_place : List Entry → ℕ
first_place [] = 0
first_place (e ∷ entries) = e.at

abbrev first_kid : List Entry → Kid
first_kid [] = record { parent = 0; action = 0 }
first_kid (e ∷ entries) = kid_of e

none_some : {X : Type 0} (x : X) (xs : List X) → ◌≢◌ {A = List X} [] (x ∷ xs)
none_some x xs e = cc

no_group : (v : Version) → IsGroup v [] → ⊥
no_group v g = let some : 1 ≤ 0 = g.some in omega (arith, some)

-- where entries end of which the first stands at a place
abbrev end_of : Version → ℕ → List Kid → ℕ
end_of v at [] = at
end_of v at (k ∷ kids) = end_of v (at + entry_width v) kids

end_is : (v : Version) (at : ℕ) (kids : List Kid) → end_of v at kids ≡ at + entry_width v * length kids
end_is v at [] = omega arith
end_is v at (k ∷ kids) =
    let product = mul-suc (entry_width v) (length kids) in
    omega (arith, end_is v (at + entry_width v) kids, product)

group_end : (v : Version) (gate : ℕ) (kids : List Kid) → gate + length (opened v kids) ≡ end_of v (gate + 5) kids
group_end v gate kids = omega (arith, end_is v (gate + 5) kids, length-counted v kids)

-- after the entries of a group that stand first, the next one's place is not that of one more
not_here : (v : Version) (gate : ℕ) (groups : List (List Kid)) (k : Kid) (more : List Entry) → AllByRecursion (IsGroup v) groups
    → entries_in v gate groups ≡ record { parent = k.parent; action = k.action; at = gate } ∷ more → ⊥
not_here v gate [] k more sound e = none_some (record { parent = k.parent; action = k.action; at = gate }) more e
not_here v gate ([] ∷ groups) k more sound e = no_group v sound.0
not_here v gate ((x ∷ xs) ∷ groups) k more sound e = let places : gate + 5 ≡ gate = ap first_place e in omega (arith, places)

-- of two lists of entries that are the same, the first groups are
first_same : (v : Version) (at : ℕ) (ks ls : List Kid) (gs hs : List (List Kid)) → AllByRecursion (IsGroup v) gs → AllByRecursion (IsGroup v) hs
    → entries_of v at ks ++ entries_in v (end_of v at ks) gs ≡ entries_of v at ls ++ entries_in v (end_of v at ls) hs
    → (ks ≡ ls) × (entries_in v (end_of v at ks) gs ≡ entries_in v (end_of v at ls) hs)
first_same v at [] [] gs hs g h e = (refl, e)
first_same v at [] (l ∷ ls) gs hs g h e =
    absurd (not_here v at gs l (entries_of v (at + entry_width v) ls ++ entries_in v (end_of v at (l ∷ ls)) hs) g e)
first_same v at (k ∷ ks) [] gs hs g h e =
    absurd (not_here v at hs k (entries_of v (at + entry_width v) ks ++ entries_in v (end_of v at (k ∷ ks)) gs) h (sym e))
first_same v at (k ∷ ks) (l ∷ ls) gs hs g h e =
    let more = first_same v (at + entry_width v) ks ls gs hs g h (ap (drop 1) e) in
    (ap₂ (λ (x : Kid) (xs : List Kid). x ∷ xs) (ap first_kid e) more.0, more.1)

-- the entries after a first group
behind : (v : Version) (gate : ℕ) (g : List Kid) (gs : List (List Kid))
    → entries_in v gate (g ∷ gs) ≡ entries_of v (gate + 5) g ++ entries_in v (end_of v (gate + 5) g) gs
behind v gate g gs = ap (λ (n : ℕ). entries_of v (gate + 5) g ++ entries_in v n gs) (group_end v gate g)

some_first : (v : Version) (gate : ℕ) (h : List Kid) (hs : List (List Kid)) → IsGroup v h → [] ≡ entries_in v gate (h ∷ hs) → ⊥
some_first v gate [] hs g e = no_group v g
some_first v gate (x ∷ xs) hs g e =
    none_some (record { parent = x.parent; action = x.action; at = gate + 5 })
    (entries_of v (gate + 5 + entry_width v) xs ++ entries_in v (gate + length (opened v (x ∷ xs))) hs) e

pub groups_same : (v : Version) (gate : ℕ) (gs hs : List (List Kid)) → AllByRecursion (IsGroup v) gs → AllByRecursion (IsGroup v) hs
    → entries_in v gate gs ≡ entries_in v gate hs → gs ≡ hs
groups_same v gate [] [] g h e = refl
groups_same v gate [] (y ∷ hs) g h e = absurd (some_first v gate y hs h.0 e)
groups_same v gate (x ∷ gs) [] g h e = absurd (some_first v gate x gs g.0 (sym e))
groups_same v gate (x ∷ gs) (y ∷ hs) g h e =
    let parts = first_same v (gate + 5) x y gs hs g.1 h.1 (sym (behind v gate x gs) ∙ (e ∙ behind v gate y hs)) in
    let same_end : end_of v (gate + 5) y ≡ end_of v (gate + 5) x = ap (end_of v (gate + 5)) (sym parts.0) in
    ap₂ (λ (k : List Kid) (ks : List (List Kid)). k ∷ ks) parts.0
    (groups_same v (end_of v (gate + 5) x) gs hs g.1 h.1 (parts.1 ∙ ap (λ (n : ℕ). entries_in v n hs) same_end))
