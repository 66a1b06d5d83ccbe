use Rattle.sms_join.proofs.KeyTags.{tag_found}
use Rattle.sms_join.proofs.key_row.has_tag.Goals as goal

pub returns-clause-is : goal.returns-clause-is
returns-clause-is c = tag_found c.args.tags.now c.args.tag c.told-tags
