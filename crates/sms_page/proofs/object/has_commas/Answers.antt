use Rattle.std.proofs.Common.{refl}
use Rattle.sms_page.specs.Object.{object, end_object, list, end_list}
use Rattle.sms_page.proofs.ObjectLemmas.{commas}
use Rattle.sms_page.proofs.object.has_commas.Goals as goal

pub returns : goal.returns
returns c = record { objects = commas object end_object refl refl refl refl; lists = commas list end_list refl refl refl refl }
