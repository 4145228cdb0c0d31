-- A word that is not 1 stands for a picture. Assumes nothing.
use Rattle.capi_record.proofs.Records.{first_kind}
use Rattle.capi_record.proofs.kind_of.Goals as goal

pub returns-in_default : goal.returns-in_default
returns-in_default c = first_kind c.args.word c.in_default.in_default-own.rest.1
