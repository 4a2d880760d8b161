-- Domains are read by their rule.
use Rattle.hd_pddl.specs.Domain.{IsDomain}
use Rattle.hd_pddl.specs.Reading.{domain_of}
use Rattle.hd_pddl.proofs.CompleteDomain.{domain_of-IsDomain}
use Rattle.hd_pddl.proofs.SoundDomain.{IsDomain-domain_of}
use Rattle.hd_forms.proofs.Whole.{IsReadBy}

pub IsReadBy-domain_of : IsReadBy IsDomain domain_of
IsReadBy-domain_of = record { complete = λ f t says. domain_of-IsDomain says; sound = IsDomain-domain_of }
