-- The names of alphabets.
use Rattle.std.specs.Prelude.{ℕ, List, codes}
use Rattle.sms_language.specs.declared.tables.Locking.{Locking}
use Rattle.sms_language.specs.declared.tables.Locking.TheVariants as locking
use Rattle.sms_language.specs.declared.tables.Single.{Single}
use Rattle.sms_language.specs.declared.tables.Single.TheVariants as single
use Rattle.sms_language.specs.declared.tables.Tables.{Tables}
use Rattle.sms_join.specs.declared.units.Units.{Units}
use Rattle.sms_join.specs.declared.units.Units.TheVariants.{Gsm, Ucs2}

-- the default alphabet, or UCS-2
abbrev pub alphabet_name : Units → List ℕ
alphabet_name (Gsm septets) = codes "gsm"
alphabet_name (Ucs2 units) = codes "ucs2"

-- septets by the table of a code alone and the table after the escape
abbrev pub septets_name : Locking → Single → List ℕ
septets_name locking.Default single.Default = codes "gsm"
septets_name locking.Default single.Turkish = codes "gsm-turkish-single"
septets_name locking.Default single.Spanish = codes "gsm-spanish-single"
septets_name locking.Default single.Portuguese = codes "gsm-portuguese-single"
septets_name locking.Turkish single.Default = codes "gsm-turkish-locking"
septets_name locking.Portuguese single.Default = codes "gsm-portuguese-locking"
septets_name locking.Turkish single.Turkish = codes "gsm-turkish-both"
septets_name locking.Portuguese single.Portuguese = codes "gsm-portuguese-both"
septets_name _ _ = codes "gsm-both"

abbrev pub tables_name : Tables → List ℕ
tables_name tables = septets_name tables.locking tables.single
