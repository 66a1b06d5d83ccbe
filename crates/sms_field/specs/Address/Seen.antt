-- The digits or the name of an address, where they lie (3GPP TS 23.040, 9.1.2.5).
use Rattle.sms_field.specs.declared.symbols.Symbols.{Symbols}
use Rattle.sms_field.specs.declared.symbols.Symbols.TheVariants as symbols
use Rattle.sms_field.specs.declared.symbols_view.SymbolsView.{SymbolsView}
use Rattle.sms_field.specs.declared.symbols_view.SymbolsView.TheVariants as seen

abbrev pub seen_symbols : SymbolsView → Symbols
seen_symbols (seen.Digits digits) = symbols.Digits digits
seen_symbols (seen.Name septets) = symbols.Name septets
