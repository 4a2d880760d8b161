use Rattle.std.proofs.Common.{◌≡◌, ℕ, ◌%◌, ap, ◌∙◌}
use Rattle.hd_zobrist.specs.Hash.{state_hash}
use Rattle.hd_node.specs.Parcel.{ParcelView}
use Rattle.hd_desk.specs.Hands.{put_into}
use Rattle.hd_entries.specs.Holding.{parcel_of}
use Rattle.hd_turns.specs.Calls.{after_return}
use Rattle.hd_threads.proofs.posting.send_next.Goals as goal

pub returns-in-Ok-clause-sent : goal.returns-in-Ok-clause-sent
returns-in-Ok-clause-sent c =
    let p = c.in-Some.parcel in
    let to : c.owner-to.result ≡ state_hash p.state % c.args.workers = c.owner-to.ensures.owner ∙ ap (λ (h : ℕ). h % c.args.workers) c.hash.ensures in (
      p,
      c.in-Some.ensures.sent,
      c.in-Ok.ensures.put ∙ (ap (λ (n : ℕ). put_into n c.of.result c.args.hands.now) to ∙ ap (λ (x : ParcelView). put_into (state_hash p.state % c.args.workers) x c.args.hands.now) c.of.ensures),
      c.in-Some.ensures.rest,
    )

pub returns-in-Err-clause-sent : goal.returns-in-Err-clause-sent
returns-in-Err-clause-sent c =
    let p = c.in-Some.parcel in
    let same : c.into_parcel.result ≡ p = c.into_parcel.ensures ∙ (c.in-Err.ensures.back ∙ c.of.ensures) in (
      p,
      c.in-Some.ensures.sent,
      c.in-Err.ensures.err,
      c.put_back.ensures ∙ (ap (λ (x : ParcelView). after_return (parcel_of x) c.next_out.new.self) same ∙ ap (after_return (parcel_of p)) c.in-Some.ensures.rest),
    )
