-- The boundary's test, then the library's answer: a refusal keeps the words, a size is stored. Assumes nothing.
use mathlib.Core.Path.{refl}
use lib.ListN.{length}
use borrow.Author.Tests.{lt-ltb, le-ltb}
use Rattle.capi_words.proofs.Boundary.{misuse_told, misuse_kept, passed}
use Rattle.capi_pictures.specs.Pictures.{number_of_scaled, size_after_scaled}
use Rattle.capi_pictures.proofs.Answers.{size_refused, size_stored}
use Rattle.capi_pictures.proofs.jonquilsaw_scaled.Goals as goal

pub returns-then-size-lt2 : goal.returns-then-size-lt2
unfolding number_of_scaled size_after_scaled
returns-then-size-lt2 c =
    let g = c.args in
    let f = lt-ltb (length g.size.now) 2 c.if-size-lt2.true in
    record {
      number = misuse_told _ refl f;
      size = misuse_kept _ refl f _ g.size.now;
    }

pub returns-in-Err : goal.returns-in-Err
unfolding number_of_scaled size_after_scaled
returns-in-Err c =
    let g = c.args in
    let f = le-ltb (length g.size.now) 2 c.if-size-lt2.false in
    let s = c.scaled-answer in
    let both = size_refused s.result _ _ _ (passed _ refl f) s.ensures.number c.in-Err.why c.number.result g.size.now c.in-Err.is c.number.ensures in
    record { number = both.0; size = both.1 }

pub returns-in-Ok : goal.returns-in-Ok
unfolding number_of_scaled size_after_scaled
returns-in-Ok c =
    let g = c.args in
    let f = le-ltb (length g.size.now) 2 c.if-size-lt2.false in
    let s = c.scaled-answer in
    let both = size_stored s.result _ _ _ (passed _ refl f) s.ensures.number c.in-Ok.d _ g.size.now c.in-Ok.is s.ensures.size c.store.ensures in
    record { number = both.0; size = both.1 }
