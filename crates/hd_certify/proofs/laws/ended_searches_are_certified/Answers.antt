use Rattle.hd_certify.proofs.laws.ended_searches_are_certified.Goals as goal

pub returns : goal.returns
returns c = record {
  optimal = λ t entries expanded p named legal covered answer. record {
    expanded = expanded;
    named = named;
    legal = legal;
    shown = (record { covered = covered; in_range = answer.0 }, answer.1);
  };
  no_plan = λ t entries expanded named legal covered answer. record {
    expanded = expanded;
    named = named;
    legal = legal;
    shown = (record { covered = covered; in_range = answer.0 }, answer.1);
  };
  whole = λ t entries expanded most at named legal refused. refused.1.illegal (expanded, named, legal);
}
