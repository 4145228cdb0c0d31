-- A refusal keeps the word, since its number is not 0; a flag is stored. Assumes nothing.
use Rattle.capi_pictures.proofs.Answers.{flag_refused, flag_stored}
use Rattle.capi_pictures.proofs.store_flag.Goals as goal

pub returns-in-Err : goal.returns-in-Err
returns-in-Err c =
    let g = c.args in
    let both = flag_refused g.answer c.in-Err.why c.number.result g.flag.now c.in-Err.is c.number.ensures in
    record { number = both.0; flag = both.1 }

pub returns-in-Ok : goal.returns-in-Ok
returns-in-Ok c =
    let g = c.args in
    let w = c.flag_word in
    let both = flag_stored g.answer c.in-Ok.f w.result _ g.flag.now c.in-Ok.is w.ensures c.store.ensures in
    record { number = both.0; flag = both.1 }
