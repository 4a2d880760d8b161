-- Rows in one list: each is what stands between two starts.
use Rattle.std.proofs.Common.{◌≡◌, ℕ, zero, suc, ◌+◌, ◌-◌, ◌<◌, ◌≤◌, List, [], ◌∷◌, ◌++◌, length, take, drop, get_or, refl, sym, ap, ap₂, ◌∙◌, subst, arith, length-append}
use Rattle.std.proofs.Math.Numerals.{add-one}
use Rattle.std.proofs.lemmas.List.{take_all, drop_all, drop-drop, length-drop, take-append-le, drop-append-le}
use Rattle.hd_hmax.specs.Rows.{rows_of, AreStarts, IsLaid}

pub length-rows_of : (starts items : List ℕ) → AreStarts starts items → length (rows_of starts items) + 1 ≡ length starts
length-rows_of [] items h = absurd h
length-rows_of (s ∷ []) items h = refl
length-rows_of (s ∷ e ∷ starts) items h = let k = length-rows_of (e ∷ starts) (drop (e - s) items) h.2 in omega (arith, k)

-- where a row starts and ends, from the first start on, and what stands there
pub record IsBetween (starts items : List ℕ) (s r : ℕ) : Type 0 where
  pub behind : s ≤ get_or starts r 0
  pub rises : get_or starts r 0 ≤ get_or starts (suc r) 0
  pub within : get_or starts (suc r) 0 - s ≤ length items
  pub is : get_or (rows_of starts items) r [] ≡ take (get_or starts (suc r) 0 - get_or starts r 0) (drop (get_or starts r 0 - s) items)

pub row_between : (s : ℕ) (starts items : List ℕ) (r : ℕ) → AreStarts (s ∷ starts) items → r < length starts → IsBetween (s ∷ starts) items s r
row_between s [] items r h b = absurd (omega (arith, b))
row_between s (e ∷ starts) items zero h b =
    let none : s - s ≡ 0 = omega arith in
    record { behind = omega arith; rises = h.0; within = h.1; is = ap (λ k. take (e - s) (drop k items)) (sym none) }
row_between s (e ∷ starts) items (suc r) h b =
    let k = row_between e starts (drop (e - s) items) r h.2 (omega (arith, b)) in
    let up = h.0 in
    let fits = h.1 in
    let behind = k.behind in
    let within = k.within in
    let rest = length-drop (e - s) items in
    let sum : e - s + (get_or (e ∷ starts) r 0 - e) ≡ get_or (e ∷ starts) r 0 - s = omega (arith, up, behind) in
    record {
      behind = omega (arith, up, behind);
      rises = k.rises;
      within = omega (arith, up, fits, within, rest);
      is = k.is ∙ ap (take (get_or (e ∷ starts) (suc r) 0 - get_or (e ∷ starts) r 0)) (drop-drop (get_or (e ∷ starts) r 0 - e) (e - s) items ∙ ap (λ n. drop n items) sum);
    }

-- ---- one row more

-- the end of a list that begins at a start
abbrev end_of : ℕ → List ℕ → ℕ
end_of s items = s + length items

end_behind : (s e : ℕ) (items row : List ℕ) → s ≤ e → e - s ≤ length items → end_of e (drop (e - s) items ++ row) ≡ end_of s (items ++ row)
end_behind s e items row up fits =
    let a = length-append (drop (e - s) items) row in
    let b = length-append items row in
    let c = length-drop (e - s) items in
    omega (arith, a, b, c, up, fits)

pub starts_pushed : (s : ℕ) (starts items row : List ℕ) → AreStarts (s ∷ starts) items → AreStarts (s ∷ (starts ++ end_of s (items ++ row) ∷ [])) (items ++ row)
starts_pushed s [] items row h =
    let all : s + length (items ++ row) - s ≡ length (items ++ row) = omega arith in
    (omega arith, omega (arith, all), drop_all (s + length (items ++ row) - s) (items ++ row) (omega (arith, all)))
starts_pushed s (e ∷ starts) items row h =
    let up = h.0 in
    let fits = h.1 in
    let longer = length-append items row in (
      up,
      omega (arith, fits, longer),
      subst (AreStarts (e ∷ (starts ++ end_of s (items ++ row) ∷ []))) (sym (drop-append-le (e - s) items row fits))
          (subst (λ end. AreStarts (e ∷ (starts ++ end ∷ [])) (drop (e - s) items ++ row)) (end_behind s e items row up fits) (starts_pushed e starts (drop (e - s) items) row h.2)),
    )

pub rows_pushed : (s : ℕ) (starts items row : List ℕ) → AreStarts (s ∷ starts) items → rows_of (s ∷ (starts ++ end_of s (items ++ row) ∷ [])) (items ++ row) ≡ rows_of (s ∷ starts) items ++ row ∷ []
rows_pushed s [] items row h =
    let all : s + length (items ++ row) - s ≡ length (items ++ row) = omega arith in
    ap (λ (xs : List ℕ). xs ∷ []) (take_all (s + length (items ++ row) - s) (items ++ row) (omega (arith, all)) ∙ ap (λ xs. xs ++ row) h)
rows_pushed s (e ∷ starts) items row h =
    let up = h.0 in
    let fits = h.1 in
    ap₂ (λ (xs : List ℕ) (rows : List (List ℕ)). xs ∷ rows) (take-append-le (e - s) items row fits)
    (ap (rows_of (e ∷ (starts ++ end_of s (items ++ row) ∷ []))) (drop-append-le (e - s) items row fits)
    ∙ (ap (λ end. rows_of (e ∷ (starts ++ end ∷ [])) (drop (e - s) items ++ row)) (sym (end_behind s e items row up fits))
    ∙ rows_pushed e starts (drop (e - s) items) row h.2))

-- ---- rows from the beginning on

-- what a row's number says
pub record IsRowAt (starts items : List ℕ) (rows : List (List ℕ)) (r : ℕ) : Type 0 where
  pub start_within : r < length starts
  pub end_within : r + 1 < length starts
  pub rises : get_or starts r 0 ≤ get_or starts (r + 1) 0
  pub within : get_or starts (r + 1) 0 ≤ length items
  pub is : take (get_or starts (r + 1) 0 - get_or starts r 0) (drop (get_or starts r 0) items) ≡ get_or rows r []

row_at_next : (starts items : List ℕ) (r : ℕ) → IsLaid starts items → r < length (rows_of starts items) → IsRowAt starts items (rows_of starts items) r
row_at_next [] items r laid h = absurd laid.rise
row_at_next (s ∷ starts) items r laid h =
    let first : s ≡ 0 = laid.first in
    let count = length-rows_of (s ∷ starts) items laid.rise in
    let k = row_between s starts items r laid.rise (omega (arith, count, h)) in
    let next : get_or (s ∷ starts) (r + 1) 0 ≡ get_or (s ∷ starts) (suc r) 0 = ap (λ n. get_or (s ∷ starts) n 0) (add-one r) in
    let rises = k.rises in
    let within = k.within in
    let from : get_or (s ∷ starts) r 0 - s ≡ get_or (s ∷ starts) r 0 = omega (arith, first) in
    record {
      start_within = omega (arith, count, h);
      end_within = omega (arith, count, h);
      rises = omega (arith, next, rises);
      within = omega (arith, next, within, first);
      is = ap₂ (λ (n m : ℕ). take (n - get_or (s ∷ starts) r 0) (drop m items)) next (sym from) ∙ sym k.is;
    }

pub row_at : (starts items : List ℕ) (rows : List (List ℕ)) (r : ℕ) → rows_of starts items ≡ rows → IsLaid starts items → r < length rows → IsRowAt starts items rows r
row_at starts items rows r seen laid h =
    let same = ap length seen in
    subst (λ rows. IsRowAt starts items rows r) seen (row_at_next starts items r laid (omega (arith, same, h)))

pushed : (starts items row : List ℕ) → IsLaid starts items
    → IsLaid (starts ++ length (items ++ row) ∷ []) (items ++ row) × (rows_of (starts ++ length (items ++ row) ∷ []) (items ++ row) ≡ rows_of starts items ++ row ∷ [])
pushed [] items row laid = absurd laid.rise
pushed (s ∷ starts) items row laid =
    let first : s ≡ 0 = laid.first in
    let same : end_of s (items ++ row) ≡ length (items ++ row) = omega (arith, first) in (
      record { first = laid.first; rise = subst (λ end. AreStarts (s ∷ (starts ++ end ∷ [])) (items ++ row)) same (starts_pushed s starts items row laid.rise) },
      ap (λ end. rows_of (s ∷ (starts ++ end ∷ [])) (items ++ row)) (sym same) ∙ rows_pushed s starts items row laid.rise,
    )

module _ (starts items row starts' items' : List ℕ) (end : ℕ) (laid : IsLaid starts items) (more : items' ≡ items ++ row) (at : end ≡ length items') (last : starts' ≡ starts ++ end ∷ []) where
  whole : starts' ≡ starts ++ length (items ++ row) ∷ []
  whole = last ∙ ap (λ k. starts ++ k ∷ []) (at ∙ ap length more)

  pub laid_pushed : IsLaid starts' items'
  laid_pushed =
      subst (λ xs. IsLaid xs items') (sym whole)
      (subst (IsLaid (starts ++ length (items ++ row) ∷ [])) (sym more) (pushed starts items row laid).0)

  pub rows_laid : rows_of starts' items' ≡ rows_of starts items ++ row ∷ []
  rows_laid = ap₂ rows_of whole more ∙ (pushed starts items row laid).1
