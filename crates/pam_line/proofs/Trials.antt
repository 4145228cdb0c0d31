-- Some lines, computed: what the definitions say of the cases that the form names. Assumes nothing.
use Prim.Native.Nat.{ℕ}
use mathlib.Core.Path.{◌≡◌, refl}
use mathlib.Core.List.{List, [], ◌∷◌, ◌++◌}
use Rattle.preview_decimal.specs.Decimal.{digits, value}
use Rattle.pam_text.specs.Text.{same_text}
use Rattle.pam_words.specs.Words.{words_from}
use Rattle.pam_line.specs.Line.{text_width, text_tupltype, text_endhdr, text_rgb_alpha, keyword_of, says}
use Rattle.pam_line.specs.declared.Key.TheVariants.{Width}
use Rattle.pam_line.specs.declared.Said.{Said}
use Rattle.pam_line.specs.declared.Said.TheVariants.{Nothing, Number, OtherType, Outside}

-- a line and what it says
pub record Trial : Type 0 where
  pub line : List ℕ
  pub meaning : Said

abbrev trial : List ℕ → Said → Trial
trial line meaning = record { line = line; meaning = meaning }

abbrev trials : List Trial
trials =
    -- `# x`; ` # x`; ` \t`
    trial (35 ∷ 32 ∷ 120 ∷ []) Nothing
    ∷ trial (32 ∷ 35 ∷ 32 ∷ 120 ∷ []) Outside
    ∷ trial (32 ∷ 9 ∷ []) Nothing
    -- `\tWIDTH \v007\r`; `WIDTH 4294967300`; `WIDTH 7 8`; `WIDTH`; `WIDTH 7a`; `width 7`
    ∷ trial (9 ∷ text_width ++ (32 ∷ 11 ∷ 48 ∷ 48 ∷ 55 ∷ 13 ∷ [])) (Number Width 7)
    ∷ trial (text_width ++ (32 ∷ 52 ∷ 50 ∷ 57 ∷ 52 ∷ 57 ∷ 54 ∷ 55 ∷ 51 ∷ 48 ∷ 48 ∷ [])) (Number Width 4294967300)
    ∷ trial (text_width ++ (32 ∷ 55 ∷ 32 ∷ 56 ∷ [])) Outside
    ∷ trial text_width Outside
    ∷ trial (text_width ++ (32 ∷ 55 ∷ 97 ∷ [])) Outside
    ∷ trial (119 ∷ 105 ∷ 100 ∷ 116 ∷ 104 ∷ 32 ∷ 55 ∷ []) Outside
    -- `TUPLTYPE RGB_ALPHA X`; `TUPLTYPE`; `ENDHDR 1`
    ∷ trial (text_tupltype ++ (32 ∷ text_rgb_alpha ++ (32 ∷ 88 ∷ []))) OtherType
    ∷ trial text_tupltype Outside
    ∷ trial (text_endhdr ++ (32 ∷ 49 ∷ [])) Outside
    ∷ []

abbrev AllHold : List Trial → Type 0
AllHold [] = Unit {0}
AllHold (t ∷ ts) = (says t.line ≡ t.meaning) × AllHold ts

pub all_hold : AllHold trials
unfolding says words_from keyword_of same_text digits value
all_hold = (refl, (refl, (refl, (refl, (refl, (refl, (refl, (refl, (refl, (refl, (refl, (refl, tt))))))))))))
