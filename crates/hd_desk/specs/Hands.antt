-- Mailboxes and the passes that a thread has of them, as contracts see them. (Our own.)
use Rattle.std.specs.Prelude.{◌≡◌, ℕ, zero, suc, ◌+◌, ◌-◌, ◌<◌, ◌++◌, List, [], ◌∷◌, map, Option, Some, slice_get, refl}
use Rattle.std.specs.List.{AllByRecursion, sum_by}
use Rattle.std.specs.Coded.{Coded, code_by, coded×, coded_ℕ, coded_list}
use Rattle.atomic_table.specs.Seated.{TableId, table_id_coded}
use Rattle.crossbeam_queue.specs.declared.array_queue.Doing.{Doing}
use Rattle.crossbeam_queue.specs.declared.array_queue.Slotted.{Slotted}
use Rattle.crossbeam_queue.specs.Passes.{Pass, view}
use Rattle.hd_desk.specs.declared.rule.Post.{Post}
use Rattle.hd_desk.specs.declared.rule.TheConstants.{ALL_PARTS}

-- a pass of a mailbox: the name of that, which tells it from others; its parts; what it has put and
-- taken, in order
pub record PostView (A : Type 0) : Type 0 where
  pub mailbox : TableId
  pub parts : ℕ
  pub put : List A
  pub taken : List A

-- a thread's passes, one of each mailbox in order, and what the items are of
pub record HandsView (K A : Type 0) : Type 0 where
  pub of : K
  pub posts : List (PostView A)

-- the code of a pass, from a code of the items
abbrev pub post_code : {A : Type 0} → Coded A → Coded (PostView A)
post_code {A} c =
    code_by (TableId × (ℕ × (List A × List A))) (coded× table_id_coded (coded× coded_ℕ (coded× (coded_list c) (coded_list c))))
    (λ p. (p.mailbox, (p.parts, (p.put, p.taken)))) (λ q. record { mailbox = q.0; parts = q.1.0; put = q.1.1.0; taken = q.1.1.1 }) (λ _. refl)

-- the code of a thread's passes, from codes of the items and of what they are of
abbrev pub hands_code : {K A : Type 0} → Coded K → Coded A → Coded (HandsView K A)
hands_code {K} {A} k c = code_by (K × List (PostView A)) (coded× k (coded_list (post_code c))) (λ h. (h.of, h.posts)) (λ q. record { of = q.0; posts = q.1 }) (λ _. refl)

module _ {K A : Type 0} where
  -- the passes are of these mailboxes, one of each in order
  abbrev pub IsFor : List TableId → HandsView K A → Type 0
  IsFor names hands = map (λ p. p.mailbox) hands.posts ≡ names

  -- how many parts each pass has
  abbrev pub parts_of : HandsView K A → List ℕ
  parts_of hands = map (λ p. p.parts) hands.posts

  -- each pass has more than one part, so that one can be given away
  abbrev pub AreShareable : HandsView K A → Type 0
  AreShareable hands = AllByRecursion (λ n. 1 < n) (parts_of hands)

  -- the pass of a mailbox has all parts of it
  abbrev pub HasAll : ℕ → HandsView K A → Type 0
  HasAll box hands = slice_get (parts_of hands) box ≡ Some ALL_PARTS

-- what a pass has put is what it has taken and some items more, each as often, however items are
-- weighed
abbrev pub IsTallied : {A : Type 0} → PostView A → Type 0
IsTallied {A} p = (left : List A) × ((h : A → ℕ) → sum_by h p.put ≡ sum_by h p.taken + sum_by h left)

-- what a pass has put is what it has taken, each item as often, however items are weighed
abbrev pub IsEvened : {A : Type 0} → PostView A → Type 0
IsEvened {A} p = (h : A → ℕ) → sum_by h p.put ≡ sum_by h p.taken

-- ---- what a call makes of them

module _ {A : Type 0} where
  -- a pass that has put one more item
  abbrev pub with_put : A → PostView A → PostView A
  with_put x p = record p { put = p.put ++ x ∷ [] }

  -- a pass that has taken one more item
  abbrev pub with_taken : A → PostView A → PostView A
  with_taken x p = record p { taken = p.taken ++ x ∷ [] }

  -- a part is given away
  abbrev pub less_part : PostView A → PostView A
  less_part p = record p { parts = p.parts - 1 }

  -- a pass of the same mailbox with one part, which has put and taken nothing
  abbrev pub one_part : PostView A → PostView A
  one_part p = record { mailbox = p.mailbox; parts = 1; put = []; taken = [] }

  -- a pass has taken in another's parts, with what that has put and taken
  abbrev pub with_other : PostView A → PostView A → PostView A
  with_other o p = record { mailbox = p.mailbox; parts = p.parts + o.parts; put = p.put ++ o.put; taken = p.taken ++ o.taken }

  -- the pass with all parts of a mailbox, through which nothing has gone
  abbrev pub fresh_post : TableId → PostView A
  fresh_post name = record { mailbox = name; parts = ALL_PARTS; put = []; taken = [] }

  -- each of some passes has taken in the one in the same place of others
  abbrev pub joined : List (PostView A) → List (PostView A) → List (PostView A)
  joined posts [] = posts
  joined [] (o ∷ others) = []
  joined (p ∷ posts) (o ∷ others) = with_other o p ∷ joined posts others

-- the parts of passes that have taken in those of others
abbrev pub parts_joined : List ℕ → List ℕ → List ℕ
parts_joined ns [] = ns
parts_joined [] (m ∷ ms) = []
parts_joined (n ∷ ns) (m ∷ ms) = (n + m) ∷ parts_joined ns ms

-- a list in which the item at one place has changed
abbrev pub changed_at : {A : Type 0} → ℕ → (A → A) → List A → List A
changed_at k f [] = []
changed_at zero f (x ∷ xs) = f x ∷ xs
changed_at (suc k) f (x ∷ xs) = x ∷ changed_at k f xs

module _ {K A : Type 0} where
  -- the passes with all parts of these mailboxes, through which nothing has gone
  abbrev pub fresh_hands : K → List TableId → HandsView K A
  fresh_hands of names = record { of = of; posts = map fresh_post names }

  -- an item more is put into the mailbox of this number
  abbrev pub put_into : ℕ → A → HandsView K A → HandsView K A
  put_into to x hands = record hands { posts = changed_at to (with_put x) hands.posts }

  -- an item more is taken out of the mailbox of this number
  abbrev pub taken_from : ℕ → A → HandsView K A → HandsView K A
  taken_from from x hands = record hands { posts = changed_at from (with_taken x) hands.posts }

  -- a part of each is given away
  abbrev pub less_parts : HandsView K A → HandsView K A
  less_parts hands = record hands { posts = map less_part hands.posts }

  -- passes of the same mailboxes with one part each, which have put and taken nothing
  abbrev pub one_parts : HandsView K A → HandsView K A
  one_parts hands = record hands { posts = map one_part hands.posts }

  -- each pass has taken in another's parts, with what that has put and taken
  abbrev pub with_hands : HandsView K A → HandsView K A → HandsView K A
  with_hands others hands = record hands { posts = joined hands.posts others.posts }

-- ---- how the parts show it

-- the name of a mailbox, which tells it from others
abbrev pub mailbox_name : {T V Q A : Type 0} → Slotted (Option T) (Doing T V) Q A → TableId
mailbox_name q = q.table.shared.table_id

module _ {K A : Type 0} where
  -- a pass of a mailbox, as contracts see it
  abbrev pub post_of : Pass A (Post K A) → PostView A
  post_of p = record { mailbox = p.table_id; parts = (view p).parts; put = (view p).put; taken = (view p).taken }

-- what is kept of each pass: no slot is out with it, it has a part, and it knows what the items are
-- of
pub record IsHand {K A : Type 0} (of : K) (p : Pass A (Post K A)) : Type 0 where
  pub home : p.me.1 ≡ []
  pub part : 0 < (view p).parts
  pub knows : (view p).of ≡ Some of

module _ {K A Q Z : Type 0} where
  -- passes are of these mailboxes, one of each in order
  abbrev pub AreLined : List (Slotted (Option A) (Doing A (Post K A)) Q Z) → List (Pass A (Post K A)) → Type 0
  AreLined boxes passes = map (λ p. p.mailbox) (map post_of passes) ≡ map mailbox_name boxes
