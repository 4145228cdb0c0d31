-- What a line says, as the program has it: by its first three words, empty where there is none, a number cut off at 2^32 - 1. Assumes nothing.
use Rattle.std.specs.Prelude.{ℕ, ◌-◌, min, cond, List, eqb, length}
use Rattle.preview_decimal.specs.Decimal.{digits, value, none}
use Rattle.pam_text.specs.Text.{same_text}
use Rattle.pam_line.specs.Line.{text_rgb_alpha}
use Rattle.pam_line.specs.declared.Key.{Key}
use Rattle.pam_line.specs.declared.Keyword.{Keyword}
use Rattle.pam_line.specs.declared.Keyword.TheVariants as keyword
use Rattle.pam_line.specs.declared.Said.{Said}
use Rattle.pam_line.specs.declared.Said.TheVariants as said

-- a number of more than 32 bits is told as the largest of them, and refused like it
abbrev pub cut : ℕ → ℕ
cut v = min v (none - 1)

abbrev pub held : Said → Said
held said.Nothing = said.Nothing
held (said.Number key v) = said.Number key (cut v)
held said.RgbAlpha = said.RgbAlpha
held said.OtherType = said.OtherType
held said.End = said.End
held said.Outside = said.Outside

unfoldable pub number_said : Key → List ℕ → List ℕ → Said
number_said key a b =
    cond (eqb (length a) 0) said.Outside
    (cond (eqb (length b) 0) (cond (digits a (length a)) (said.Number key (cut (value a (length a)))) said.Outside) said.Outside)

unfoldable pub type_said : List ℕ → List ℕ → Said
type_said a b =
    cond (eqb (length a) 0) said.Outside
    (cond (eqb (length b) 0) (cond (same_text a text_rgb_alpha) said.RgbAlpha said.OtherType) said.OtherType)

abbrev pub said_of : Keyword → List ℕ → List ℕ → Said
said_of (keyword.Number key) a b = number_said key a b
said_of keyword.Type a b = type_said a b
said_of keyword.End a b = cond (eqb (length a) 0) said.End said.Outside
said_of keyword.Other a b = said.Outside
