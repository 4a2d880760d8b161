use Rattle.std.proofs.Common.{◌≡◌, ◌∙◌, true, false, Some, None, sym, ap, subst, refl}
use Rattle.std.specs.Prelude.{is_some}
use Rattle.std.specs.List.{position}
use Rattle.std.specs.Str.{bytes_eq}
use Rattle.hd_base.specs.Names.{is_named}
use Rattle.hd_names.specs.Fault.{StopsAt}
use Rattle.hd_names.specs.Names.{or_zero, spelled, unknown_in}
use Rattle.hd_names.specs.declared.fault.NameFault.TheVariants.{UnknownName}
use Rattle.hd_names.proofs.NameLists.{is_some-position}
use Rattle.hd_names.proofs.names.known.Goals as goal

pub returns-in-Some : goal.returns-in-Some
returns-in-Some c =
    let names = c.args.names.now in
    let name = c.args.name.now.name in
    let found : position (bytes_eq name) names ≡ Some c.in-Some.number = sym c.place_of.ensures ∙ c.in-Some.is in
    let there : is_named names name ≡ true = sym (is_some-position (bytes_eq name) names) ∙ ap is_some found in
    (rw there refl, sym (ap or_zero found))

pub returns-in-None : goal.returns-in-None
returns-in-None c =
    let names = c.args.names.now in
    let n = c.args.name.now in
    let found : position (bytes_eq n.name) names ≡ None = sym c.place_of.ensures ∙ c.in-None.is in
    let absent : is_named names n.name ≡ false = sym (is_some-position (bytes_eq n.name) names) ∙ ap is_some found in
    let fault : unknown_in c.args.kind names n ≡ Some (UnknownName (spelled c.args.kind n.name) n.at) = rw absent refl in
    subst (StopsAt c.unknown.result) (sym fault) c.unknown.ensures
