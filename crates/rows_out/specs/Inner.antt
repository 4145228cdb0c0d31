-- What only private functions of this crate promise. Assumes nothing.
use Rattle.std.specs.Prelude.{ℕ, Bool, false, List}
use Rattle.rows_form.specs.declared.RowForm.{RowForm}
use Rattle.rows_form.specs.declared.RowForm.TheVariants.{Pixels, Plain}
use Rattle.rows_restoring.specs.Restoring.{restore_number, restored_out, row_flag}

-- a row of lanes made what is handed out: its number, of n bytes, its flag and the row; a plane's lanes stay
abbrev pub finish_number : RowForm → ℕ → ℕ → ℕ
finish_number (Pixels layout) m n = restore_number m n
finish_number (Plain lanes) m n = 0

abbrev pub finish_flag : RowForm → ℕ → List ℕ → Bool
finish_flag (Pixels layout) m out = row_flag layout m out
finish_flag (Plain lanes) m out = false

abbrev pub finish_out : RowForm → ℕ → List ℕ → List ℕ
finish_out (Pixels layout) m out = restored_out layout m out
finish_out (Plain lanes) m out = out
