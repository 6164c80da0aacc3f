-- The forms of items, told apart.
use Rattle.std.specs.Prelude.{ℕ}
use Rattle.layouts.specs.declared.form.Form.{Form}
use Rattle.layouts.specs.declared.form.Form.TheVariants as form

-- a number for each form, so that two can be compared
abbrev pub form_number : Form → ℕ
form_number form.Spare = 0
form_number form.Source = 1
form_number form.MessageType = 2
form_number form.Service = 3
form_number form.Identification = 4
form_number form.Time = 5
form_number form.Batch = 6
form_number form.Sdps = 7
form_number form.Report = 8
form_number form.Station = 9
form_number form.Configuration = 10
form_number form.Range = 11
form_number form.Status = 12
form_number form.Statistics = 13
form_number form.Versions = 14
form_number form.Expansion = 15
form_number form.Purpose = 16
