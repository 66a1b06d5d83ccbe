use Rattle.sms_party.proofs.receiver.laws_of_joiners.Goals as goal

pub returns : goal.returns
returns c = record { alike = c.answers_alike.ensures; finishes = c.answer_finishes.ensures; same = c.same_is_equivalence.ensures; ages = c.agings_keep_same.ensures }
