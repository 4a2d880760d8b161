-- The forms that values stand for (own).
use Rattle.std.specs.Prelude.{List, [], ◌∷◌, map}
use Rattle.hd_forms.specs.declared.forms.Form.{Form, fold-Form}
use Rattle.hd_forms.specs.declared.forms.Form.TheOpen.{Form-F}
use Rattle.hd_forms.specs.Forms.{Forms, none, word, list, append}

-- one after the other (own)
abbrev pub joined_forms : List Forms → Forms
joined_forms [] = none
joined_forms (f ∷ fs) = append f (joined_forms fs)

-- a form alone, the forms in it already seen (own)
abbrev pub form_step : Form-F Forms → Forms
form_step (Form-F.Word at w) = word at w none
form_step (Form-F.List to from inside) = list from (joined_forms inside.items) to none

-- a form alone (own)
abbrev pub form_view : Form → Forms
form_view = fold-Form Forms form_step

-- forms, one after the other (own)
abbrev pub forms_view : List Form → Forms
forms_view fs = joined_forms (map form_view fs)
