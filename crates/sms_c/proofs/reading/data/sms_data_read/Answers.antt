use Rattle.std.proofs.Common.{true, false, rules}
use Rattle.sms_c.specs.DataAlone.{are_single}
use Rattle.sms_c.proofs.DataAlone.{reads_by, refuses_by}
use Rattle.sms_c.proofs.reading.data.sms_data_read.Goals as goal

pub returns-then-are_single-clause-read : goal.returns-then-are_single-clause-read
returns-then-are_single-clause-read c = λ zero. reads_by (are_single c.args.form.now) true c.args.form.now c.args.octets.now c.read_singles.new.out (search rules) (c.read_singles.ensures.read zero)

pub returns-then-are_single-clause-refused : goal.returns-then-are_single-clause-refused
returns-then-are_single-clause-refused c = λ one. refuses_by (are_single c.args.form.now) true c.args.form.now c.args.octets.now c.read_singles.new.refused (search rules) (c.read_singles.ensures.refused one)

pub returns-else-are_single-clause-read : goal.returns-else-are_single-clause-read
returns-else-are_single-clause-read c = λ zero. reads_by (are_single c.args.form.now) false c.args.form.now c.args.octets.now c.read_packed.new.out (search rules) (c.read_packed.ensures.read zero)

pub returns-else-are_single-clause-refused : goal.returns-else-are_single-clause-refused
returns-else-are_single-clause-refused c = λ one. refuses_by (are_single c.args.form.now) false c.args.form.now c.args.octets.now c.read_packed.new.refused (search rules) (c.read_packed.ensures.refused one)
