-- What words say to the grammar.
-- "BNF" is the BNF of PDDL 2.1 (Fox and Long 2003, its appendix); "own" is a rule of this project.
use Rattle.std.specs.Prelude.{ℕ, List, Bool, ◌||◌, codes, if◌then◌else◌}
use Rattle.std.specs.Str.{bytes_eq}
use Rattle.hd_forms.specs.declared.word.ChangeWord.TheVariants as changes
use Rattle.hd_forms.specs.declared.word.FormWord.{FormWord}
use Rattle.hd_forms.specs.declared.word.FormWord.TheVariants as words

-- the words of parts of PDDL that are not read, as far as they are spelled as names (BNF; which
-- parts are read is own)
abbrev pub is_unsupported_name : List ℕ → Bool
is_unsupported_name word =
    bytes_eq word (codes "or") || bytes_eq word (codes "imply") || bytes_eq word (codes "forall")
    || bytes_eq word (codes "exists") || bytes_eq word (codes "when") || bytes_eq word (codes "either")
    || bytes_eq word (codes "preference") || bytes_eq word (codes "scale-down") || bytes_eq word (codes "maximize")
    || bytes_eq word (codes "total-time")

-- what a word spelled as a name says: 'and', 'not', a change, a part that is not read, or a name
-- (BNF; that no other word of these is a name, own)
abbrev pub name_word : List ℕ → FormWord
name_word name =
    if bytes_eq name (codes "and") then words.And
    else (if bytes_eq name (codes "not") then words.Not
    else (if bytes_eq name (codes "assign") then words.Change changes.Assign
    else (if bytes_eq name (codes "increase") then words.Change changes.Increase
    else (if bytes_eq name (codes "decrease") then words.Change changes.Decrease
    else (if bytes_eq name (codes "scale-up") then words.Change changes.ScaleUp
    else (if is_unsupported_name name then words.Unsupported name
    else words.Name name))))))
