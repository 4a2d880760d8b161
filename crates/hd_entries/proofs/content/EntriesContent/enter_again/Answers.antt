use Rattle.std.proofs.Common.{◌≡◌, ◌∙◌, ◌+◌, ◌<◌, ◌++◌, [], ◌∷◌, length, sym, ap, subst, arith}
use Rattle.std.proofs.lemmas.List.{length-map}
use Rattle.hd_task.specs.declared.plan.Kid.{Kid}
use Rattle.hd_task.specs.declared.plan.TheConstants.{ROOT_PARENT}
use Rattle.hd_entries.specs.declared.content.EntriesContent.{EntriesContent}
use Rattle.hd_entries.specs.Settling.{BookState, IsBookKept, knows_parent, is_posted, is_marked, place_of}
use Rattle.hd_entries.specs.Holding.{successor_at_entry, state_of, IsHeld}
use Rattle.hd_entries.specs.Resuming.{resumed_state}
use Rattle.hd_entries.specs.Waiting.{IsAgain, IsExpansionTo}
use Rattle.hd_entries.proofs.Entering.{again_from, goes_on}
use Rattle.hd_entries.proofs.content.EntriesContent.enter_again.Goals as goal

pub parcel_for-requires-clause-held : goal.parcel_for-requires-clause-held
parcel_for-requires-clause-held c = c.requires.held.plans

pub expand_again-requires-clause-task : goal.expand_again-requires-clause-task
expand_again-requires-clause-task c = c.in_ok-parcel.ensures.leads.task

pub expand_again-requires-clause-known : goal.expand_again-requires-clause-known
expand_again-requires-clause-known c = ap (knows_parent (state_of c.args.self.now)) c.in_ok-parcel.ensures.kid ∙ c.in_ok-place.ensures.known

pub expand_again-requires-clause-posted : goal.expand_again-requires-clause-posted
expand_again-requires-clause-posted c = ap (is_posted (state_of c.args.self.now)) c.in_ok-parcel.ensures.kid ∙ c.in_ok-place.ensures.posted

pub expand_again-requires-clause-unsettled : goal.expand_again-requires-clause-unsettled
expand_again-requires-clause-unsettled c = ap (is_marked (state_of c.args.self.now)) c.in_ok-parcel.ensures.kid ∙ c.in_ok-place.ensures.unsettled

pub expand_again-requires-clause-place : goal.expand_again-requires-clause-place
expand_again-requires-clause-place c = c.in_ok-place.ensures.place ∙ ap (place_of (state_of c.args.self.now)) (sym c.in_ok-parcel.ensures.kid)

pub expand_again-requires-clause-leads : goal.expand_again-requires-clause-leads
expand_again-requires-clause-leads c = c.in_ok-parcel.ensures.leads.leads

-- the search after the expansion
next : (s d : EntriesContent) (k q : Kid) → IsHeld s → IsAgain (state_of s) → length s.expanded.entries.items < s.most → q ≡ k → IsExpansionTo (state_of s) q (state_of d)
    → state_of d ≡ resumed_state s.expanded.task.now ((state_of s).entries ++ k ∷ [])
next s d k q held again room kid expanded =
    let t = s.expanded.task.now in
    let before = (state_of s).entries in
    let few : length before + 1 < ROOT_PARENT = omega (arith, room, held.within, held.numbered, length-map s.expanded.entries.items successor_at_entry) in
    goes_on t before (subst IsBookKept again held.kept) k few (state_of d)
    (subst (λ (b : BookState). IsExpansionTo b k (state_of d)) again (subst (λ (x : Kid). IsExpansionTo (state_of s) x (state_of d)) kid expanded))

pub returns-clause-again : goal.returns-clause-again
returns-clause-again c =
    let s = c.args.self.now in
    again_from s.expanded.task.now ((state_of s).entries ++ c.args.kid ∷ []) (state_of c.expand_again.new.self)
    (next s c.expand_again.new.self c.args.kid c.in_ok-parcel.parcel.kid c.requires.held c.requires.again c.requires.room c.in_ok-parcel.ensures.kid c.in_ok-expand_again.ensures.expanded)

pub returns-clause-entered : goal.returns-clause-entered
returns-clause-entered c =
    ap (λ (b : BookState). b.entries)
    (next c.args.self.now c.expand_again.new.self c.args.kid c.in_ok-parcel.parcel.kid c.requires.held c.requires.again c.requires.room c.in_ok-parcel.ensures.kid c.in_ok-expand_again.ensures.expanded)
