use Rattle.sms_world.proofs.laws.laws_below.Goals as goal

pub returns : goal.returns
returns c =
    record {
      back = c.moments_come_back.ensures.zone_0;
      few = c.sets_stay_few.ensures;
      whole = c.completed_texts_are_whole.ensures;
      order = c.texts_complete_in_order.ensures;
      cut = c.texts_have_one_cut.ensures;
      joins = c.arrival_joins_in_order.ensures;
      rooms = c.open_sets_are_open_texts.ensures;
      apart = c.open_texts_stay_apart.ensures;
      ages = c.aging_keeps_texts.ensures;
      fresh = c.new_piece_is_fresh.ensures;
      turned = c.piece_is_turned_away.ensures;
      reads = c.cut_is_read_as_text.ensures;
      each = c.octets_are_read_as_a_message.ensures;
      one = c.octets_are_read_as_one_message.ensures;
      carried = c.carried_messages_are_read.ensures;
      stamps = c.stamps_rise.ensures;
      centre_few = c.centre_puts_few_out.ensures;
      centre_dropped = c.centre_drops_put_nothing_out.ensures;
      few_put = c.few_are_put_out.ensures;
      dropped = c.drops_put_nothing_out.ensures;
      others = c.others_leave_sender.ensures;
    }
