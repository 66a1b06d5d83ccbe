-- How far the tables of a world go where a script does not make them smaller; it may make none
-- greater.
use Rattle.std.specs.Prelude.{ℕ}
use Rattle.sms_script.specs.declared.meaning.statement.TheConstants.{HELD_LIMIT, OPEN_LIMIT, REMEMBERED_LIMIT, STORE_LIMIT}
use Rattle.sms_script.specs.declared.meaning.statement.Limit.{Limit}
use Rattle.sms_script.specs.declared.meaning.statement.Limit.TheVariants.{Held, Open, Remembered, Store}

abbrev pub greatest : Limit → ℕ
greatest Held = HELD_LIMIT
greatest Open = OPEN_LIMIT
greatest Remembered = REMEMBERED_LIMIT
greatest Store = STORE_LIMIT
