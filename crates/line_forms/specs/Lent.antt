-- The fields of a line as the code lends them.
use Rattle.std.specs.Prelude.{List, map}
use Rattle.decimal.specs.declared.Field as lent
use Rattle.line_forms.specs.Form.{Field, field}

abbrev pub field_in : lent.Field → Field
field_in f = field f.word.now f.most

abbrev pub fields_in : List lent.Field → List Field
fields_in fs = map field_in fs
