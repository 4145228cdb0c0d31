-- What `widen_row` promises (SCOPE, "A row comes in"): the half afterwards, its number being `import_number`. Assumes nothing.
use Rattle.std.specs.Prelude.{ℕ, cond, List, ltb}
use Rattle.pixels_layout.specs.declared.PixelLayout.{PixelLayout}
use Rattle.rows.specs.Import.{import_half}

-- the half after the call: that of `import_row` where the width grows, else as it was
unfoldable pub grown_half : PixelLayout → ℕ → ℕ → List ℕ → List ℕ → List ℕ
grown_half layout n m row half = cond (ltb n m) (import_half layout n m row half) half
