-- What the private functions of a row put ensure. Assumes nothing.
use Rattle.std.specs.Prelude.{ℕ, cond, List, nat_le}
use Rattle.rows.specs.Import.{import_half}
use Rattle.rows_form.specs.declared.RowForm.{RowForm}
use Rattle.rows_form.specs.declared.RowForm.TheVariants.{Pixels, Plain}
use Rattle.rows_planes.specs.Planes.{plane_half}
use Rattle.rows.specs.WorkRows.{half_of}

-- heights h to g, w values a half: the place of the half that crop row c goes to
abbrev pub half_for : ℕ → ℕ → ℕ → ℕ → ℕ
half_for h g w c = cond (nat_le g h) w (half_of w c)

-- a half after a row of either form came into it, or was turned away
abbrev pub form_half : RowForm → ℕ → ℕ → List ℕ → List ℕ → List ℕ
form_half (Pixels layout) n m row half = import_half layout n m row half
form_half (Plain lanes) n m row half = plane_half lanes n m row half
