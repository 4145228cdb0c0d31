-- `order_lanes` meets its contract: one function of a word for each layout that is not the scaler's own order. Assumes nothing.
use Rattle.pixels_layout.specs.declared.PixelLayout.TheVariants.{Rgba8, Argb8}
use Rattle.rows_restoring.proofs.order_lanes.Given as goal

abbrev pub ghost-order_words : goal.ghost-order_words
ghost-order_words a = Rgba8

abbrev pub ghost-order_words-2 : goal.ghost-order_words-2
ghost-order_words-2 a = Argb8
