use Rattle.std.proofs.Common.{◌≡◌, take}
use Rattle.sms_centre.proofs.centre.holdings.set_of.Given as goal

abbrev pub invariant-loop-address : goal.invariant-loop-address
invariant-loop-address l = l.set.keys ≡ take l.address-index l.addresses
