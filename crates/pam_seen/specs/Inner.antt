-- What the lines read so far said, as the program holds it (what it stands for: `Standing` of crates/pam_header/proofs/Standing). Assumes nothing.
use Rattle.std.specs.Prelude.{ℕ, cond, Option, Some, None, is_none}
use Rattle.pam_line.specs.declared.Key.{Key}
use Rattle.pam_line.specs.declared.Key.TheVariants.{Width, Height, Depth, Maxval}
use Rattle.pam_line.specs.declared.Said.{Said}
use Rattle.pam_line.specs.declared.Said.TheVariants.{Nothing, Number, RgbAlpha, OtherType, End, Outside}
use Rattle.pam_seen.specs.declared.Seen.{Seen}
use Rattle.pam_seen.specs.declared.State.{State}
use Rattle.pam_seen.specs.declared.State.TheVariants as state
use Rattle.pam_seen.specs.declared.Types.{Types}
use Rattle.pam_seen.specs.declared.Types.TheVariants as types

-- what is held for a key, where it was given
abbrev pub at : Seen → Key → Option ℕ
at t Width = t.width
at t Height = t.height
at t Depth = t.depth
at t Maxval = t.maxval

abbrev pub put : Seen → Key → ℕ → Seen
put t Width v = record { width = Some v; height = t.height; depth = t.depth; maxval = t.maxval; types = t.types; state = t.state }
put t Height v = record { width = t.width; height = Some v; depth = t.depth; maxval = t.maxval; types = t.types; state = t.state }
put t Depth v = record { width = t.width; height = t.height; depth = Some v; maxval = t.maxval; types = t.types; state = t.state }
put t Maxval v = record { width = t.width; height = t.height; depth = t.depth; maxval = Some v; types = t.types; state = t.state }

abbrev pub typed : Seen → Types → Seen
typed t k = record { width = t.width; height = t.height; depth = t.depth; maxval = t.maxval; types = k; state = t.state }

abbrev pub stated : Seen → State → Seen
stated t k = record { width = t.width; height = t.height; depth = t.depth; maxval = t.maxval; types = t.types; state = k }

-- no line read yet
abbrev pub unread : Seen
unread = record { width = None; height = None; depth = None; maxval = None; types = types.Missing; state = state.GoesOn }

-- the first line of a tuple type decides: a second is another type
abbrev pub type_again : Types → Types
type_again types.Missing = types.RgbAlpha
type_again types.RgbAlpha = types.Other
type_again types.Other = types.Other

-- what was seen after one line more
abbrev pub after_line : Seen → Said → Seen
after_line t Nothing = t
after_line t (Number key v) = cond (is_none (at t key)) (put t key v) (stated t state.Outside)
after_line t RgbAlpha = typed t (type_again t.types)
after_line t OtherType = typed t types.Other
after_line t End = stated t state.Ended
after_line t Outside = stated t state.Outside
