-- In texts without a fault each name is declared, and each argument is of the type that is asked.
use Rattle.std.proofs.Common.{◌≡◌, ℕ, zero, suc, ◌<◌, ◌==◌, true, not, List, [], ◌∷◌, ◌++◌, map, length, Option, Some, None, refl, sym, ap, subst, arith}
use Rattle.std.proofs.lemmas.Bool.{eqb-true, lt-ltb}
use Rattle.std.proofs.lemmas.Option.{slice_get-get_or}
use Rattle.std.specs.Prelude.{slice_get, slice_index_or}
use Rattle.std.specs.List.{AllZip, prefix_len}
use Rattle.std.specs.Option.{IsSomeAnd}
use Rattle.std.specs.Str.{bytes_eq}
use Rattle.hd_base.proofs.Options.{option_or_none, true-from_none, IsSomeAnd-weaker}
use Rattle.hd_base.proofs.Tests.{position_or_len-lt}
use Rattle.hd_terms.specs.declared.typed.ItemKind.TheVariants as kinds
use Rattle.hd_terms.specs.declared.tree.Term.{Term}
use Rattle.hd_terms.specs.declared.tree.Term.TheVariants.{Name, Variable}
use Rattle.hd_terms.specs.declared.tree.Atom.{Atom}
use Rattle.hd_lifted.specs.declared.task.LiftedTask.{LiftedTask}
use Rattle.hd_lifted.specs.declared.task.Object.{Object}
use Rattle.hd_lifted.specs.declared.task.Signature.{Signature}
use Rattle.hd_lifted.specs.Objects.{IsOfType}
use Rattle.hd_lifted.specs.Types.{IsSubtype, is_subtype}
use Rattle.hd_lifted.proofs.Types.{is_subtype-sound}
use Rattle.hd_names.specs.declared.scope.Scope.{Scope}
use Rattle.hd_names.specs.declared.table.Table.{Table}
use Rattle.hd_names.specs.declared.fault.NameFault.TheVariants.{UnknownName}
use Rattle.hd_check.specs.declared.fault.CheckFault.TheVariants.{WrongArity}
use Rattle.hd_base.specs.Options.{◌or◌}
use Rattle.hd_base.specs.Names.{is_named}
use Rattle.hd_names.specs.Names.{name_number, unknown_in, spelled}
use Rattle.hd_check.specs.Terms.{lifted_term, term_fault, type_of_term, type_fault, wrong_type, argument_fault, arguments_fault, parameters_of, arity_fault, applied_fault, lifted_applied}
use Rattle.hd_check.specs.Fault.{name_fault}
use Rattle.hd_check.proofs.Telling.{name_none}
use Rattle.hd_lifted.specs.WellFormed.{IsArgumentOf, IsApplied}

-- ---- numbers of names

-- a name that is one of these has a number below theirs
pub named-number : (names : List (List ℕ)) (n : List ℕ) → is_named names n ≡ true → name_number names n < length names
named-number names n e =
    let lt = position_or_len-lt (bytes_eq n) names e in
    let is : name_number names n ≡ prefix_len (λ x. not (bytes_eq n x)) names = rw (lt-ltb (prefix_len (λ x. not (bytes_eq n x)) names) (length names) lt) refl in
    omega (arith, lt, is)

-- ---- what a scope says of a task

-- a table of predicates, or of functions, has those of the task
pub record Lists (symbols : List Signature) (table : Table (List ℕ)) : Type 0 where
  pub long : length table.items ≡ length table.names
  pub same : table.items ≡ map (λ (s : Signature). s.parameters) symbols

-- a scope's names are those of a task. Of objects it has the first ones
pub record Agrees (t : LiftedTask) (s : Scope) : Type 0 where
  pub hierarchy : s.hierarchy ≡ t.hierarchy
  pub own : List Object
  pub more : List Object
  pub objects : t.objects ≡ own ++ more
  pub long : length s.objects.items ≡ length s.objects.names
  pub types : s.objects.items ≡ map (λ (o : Object). o.of) own
  pub predicates : Lists t.predicates s.predicates
  pub functions : Lists t.functions s.functions

object-there : (xs ys : List Object) (k : ℕ) → k < length (map (λ (o : Object). o.of) xs)
    → IsSomeAnd (slice_get (xs ++ ys) k) (λ (o : Object). o.of ≡ slice_index_or (map (λ (o : Object). o.of) xs) k 0)
object-there [] ys k lt = absurd (omega arith)
object-there (x ∷ xs) ys zero lt = refl
object-there (x ∷ xs) ys (suc k) lt = object-there xs ys k (omega arith)

pub signature-there : (xs : List Signature) (k : ℕ) → k < length (map (λ (s : Signature). s.parameters) xs)
    → IsSomeAnd (slice_get xs k) (λ (s : Signature). s.parameters ≡ slice_index_or (map (λ (s : Signature). s.parameters) xs) k [])
signature-there [] k lt = absurd (omega arith)
signature-there (x ∷ xs) zero lt = refl
signature-there (x ∷ xs) (suc k) lt = signature-there xs k (omega arith)

-- an object that is there, of a type below what is wanted
of_type : (t : LiftedTask) (k u wanted : ℕ) (o : Option Object) → slice_get t.objects k ≡ o → IsSomeAnd o (λ (x : Object). x.of ≡ u)
    → IsSubtype t.hierarchy u wanted → IsOfType t k wanted
of_type t k u wanted None is there below = absurd there
of_type t k u wanted (Some x) is there below =
    record { declared = x; is_declared = is; below = subst (λ v. IsSubtype t.hierarchy v wanted) (sym there) below }

-- ---- arguments

-- a term that is declared, of a type below what is wanted
pub placed : (t : LiftedTask) (s : Scope) (ps : Table ℕ) → Agrees t s → length ps.items ≡ length ps.names → (x : Term) (wanted : ℕ)
    → term_fault s ps x ≡ None → IsSubtype t.hierarchy (type_of_term s ps x) wanted
    → IsArgumentOf t ps.items (lifted_term s ps x) wanted
placed t s ps g long (Name n) wanted e below =
    let named = true-from_none (is_named s.objects.names n.name) (UnknownName (spelled kinds.Name n.name) n.at) (name_none (unknown_in kinds.Name s.objects.names n) e) in
    let within = named-number s.objects.names n.name named in
    let few : name_number s.objects.names n.name < length s.objects.items = omega (arith, within, g.long) in
    let there : IsSomeAnd (slice_get (g.own ++ g.more) (name_number s.objects.names n.name)) (λ (o : Object). o.of ≡ slice_index_or s.objects.items (name_number s.objects.names n.name) 0) =
    subst (λ (us : List ℕ). name_number s.objects.names n.name < length us → IsSomeAnd (slice_get (g.own ++ g.more) (name_number s.objects.names n.name)) (λ (o : Object). o.of ≡ slice_index_or us (name_number s.objects.names n.name) 0))
    (sym g.types) (object-there g.own g.more (name_number s.objects.names n.name)) few in
    of_type t (name_number s.objects.names n.name) (type_of_term s ps (Name n)) wanted (slice_get (g.own ++ g.more) (name_number s.objects.names n.name))
    (ap (λ (os : List Object). slice_get os (name_number s.objects.names n.name)) g.objects) there below
placed t s ps g long (Variable n) wanted e below =
    let named = true-from_none (is_named ps.names n.name) (UnknownName (spelled kinds.Variable n.name) n.at) (name_none (unknown_in kinds.Variable ps.names n) e) in
    let within = named-number ps.names n.name named in
    let few : name_number ps.names n.name < length ps.items = omega (arith, within, long) in
    subst (λ (o : Option ℕ). IsSomeAnd o (λ u. IsSubtype t.hierarchy u wanted))
    (sym (slice_get-get_or ps.items (name_number ps.names n.name) 0 few)) below

argument : (t : LiftedTask) (s : Scope) (ps : Table ℕ) → Agrees t s → length ps.items ≡ length ps.names → (x : Term) (wanted : ℕ)
    → argument_fault s ps x wanted ≡ None → IsArgumentOf t ps.items (lifted_term s ps x) wanted
argument t s ps g long x wanted e =
    let parts = option_or_none (term_fault s ps x) (type_fault s ps x wanted) e in
    let test = true-from_none (is_subtype s.hierarchy (type_of_term s ps x) wanted) (wrong_type x) parts.1 in
    placed t s ps g long x wanted parts.0
    (subst (λ (h : List ℕ). IsSubtype h (type_of_term s ps x) wanted) g.hierarchy (is_subtype-sound s.hierarchy (type_of_term s ps x) wanted test))

arguments : (t : LiftedTask) (s : Scope) (ps : Table ℕ) → Agrees t s → length ps.items ≡ length ps.names → (xs : List Term) (us : List ℕ)
    → length xs ≡ length us → arguments_fault s ps xs us ≡ None → AllZip (IsArgumentOf t ps.items) (map (lifted_term s ps) xs) us
arguments t s ps g long [] [] same e = tt
arguments t s ps g long [] (u ∷ us) same e = absurd (omega arith)
arguments t s ps g long (x ∷ xs) [] same e = absurd (omega arith)
arguments t s ps g long (x ∷ xs) (u ∷ us) same e =
    let parts = option_or_none (argument_fault s ps x u) (arguments_fault s ps xs us) e in
    (argument t s ps g long x u parts.0, arguments t s ps g long xs us (omega arith) parts.1)

-- an atom or a fluent without a fault
pub applied : (t : LiftedTask) (s : Scope) (ps : Table ℕ) → Agrees t s → length ps.items ≡ length ps.names
    → (symbols : List Signature) (table : Table (List ℕ)) → Lists symbols table → (a : Atom)
    → applied_fault table s ps a ≡ None → IsApplied t symbols ps.items (lifted_applied table s ps a)
applied t s ps g long symbols table lists a e =
    let parts = option_or_none (name_fault (unknown_in kinds.Name table.names a.name)) (arity_fault table a or arguments_fault s ps a.terms (parameters_of table a.name)) e in
    let later = option_or_none (arity_fault table a) (arguments_fault s ps a.terms (parameters_of table a.name)) parts.1 in
    let named = true-from_none (is_named table.names a.name.name) (UnknownName (spelled kinds.Name a.name.name) a.name.at) (name_none (unknown_in kinds.Name table.names a.name) parts.0) in
    let within = named-number table.names a.name.name named in
    let few : name_number table.names a.name.name < length table.items = omega (arith, within, lists.long) in
    let same : length a.terms ≡ length (parameters_of table a.name) =
    eqb-true (length a.terms) (length (parameters_of table a.name))
    (true-from_none (length a.terms == length (parameters_of table a.name)) (WrongArity a.name.name a.name.at) later.0) in
    let zipped = arguments t s ps g long a.terms (parameters_of table a.name) same later.1 in
    let there : IsSomeAnd (slice_get symbols (name_number table.names a.name.name)) (λ (x : Signature). x.parameters ≡ parameters_of table a.name) =
    subst (λ (us : List (List ℕ)). name_number table.names a.name.name < length us → IsSomeAnd (slice_get symbols (name_number table.names a.name.name)) (λ (x : Signature). x.parameters ≡ slice_index_or us (name_number table.names a.name.name) []))
    (sym lists.same) (signature-there symbols (name_number table.names a.name.name)) few in
    IsSomeAnd-weaker (λ (x : Signature). x.parameters ≡ parameters_of table a.name) (λ (x : Signature). AllZip (IsArgumentOf t ps.items) (map (lifted_term s ps) a.terms) x.parameters)
    (slice_get symbols (name_number table.names a.name.name))
    (λ x is. subst (AllZip (IsArgumentOf t ps.items) (map (lifted_term s ps) a.terms)) (sym is) zipped) there
