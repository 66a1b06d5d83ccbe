-- A reader may pass this by: the octets of a header, wherever they lie.
use Rattle.std.specs.Prelude.{ℕ, List}
use Rattle.sms_tpdu.specs.declared.user_data.header.HeaderOctets.{HeaderOctets}
use Rattle.sms_tpdu.specs.declared.user_data.header.HeaderOctets.TheVariants.{Few, Many}

abbrev pub octets_held : HeaderOctets → List ℕ
octets_held (Few octets) = octets.items
octets_held (Many octets) = octets.items
