use Rattle.sms_page.proofs.ReadLemmas.{json_reads_back, line_reads_back, stays, digits_read_back}
use Rattle.sms_page.proofs.read_back.reads_back.Goals as goal

pub returns : goal.returns
returns c = record { json = json_reads_back; line = line_reads_back; stays = stays; digits = digits_read_back }
