use Rattle.std.proofs.lemmas.Simd.{length-chunk}
use Rattle.sms_page.proofs.HexDigits.{block_put, highs_below, lows_below, bytes_of}
use lib.Lanes.{chunk}
use Rattle.sms_page.proofs.hexadecimal.put_block.Goals as goal

pub digits_of-high-requires : goal.digits_of-high-requires
digits_of-high-requires c =
    highs_below (chunk c.args.at 16 c.args.octets.now) (length-chunk c.args.at 16 c.args.octets.now c.requires.within) (bytes_of c.args.at 16 c.args.octets.now c.type_inv.octets)

pub digits_of-low-requires : goal.digits_of-low-requires
digits_of-low-requires c =
    lows_below (chunk c.args.at 16 c.args.octets.now) (length-chunk c.args.at 16 c.args.octets.now c.requires.within) (bytes_of c.args.at 16 c.args.octets.now c.type_inv.octets)

pub returns : goal.returns
returns c = block_put c.args.digits.now c.args.octets.now c.digits_of-high.result c.digits_of-low.result c.args.at c.requires.within c.requires.room c.type_inv.octets c.digits_of-high.ensures c.digits_of-low.ensures
