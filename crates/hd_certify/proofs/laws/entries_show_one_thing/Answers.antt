use Rattle.hd_certify.proofs.Showing.{same_certificate}
use Rattle.hd_certify.proofs.laws.entries_show_one_thing.Goals as goal

pub returns : goal.returns
returns c = same_certificate
