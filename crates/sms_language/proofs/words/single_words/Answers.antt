use Rattle.std.proofs.Common.{subst, sym}
use Rattle.sms_language.specs.Tables.{single_table}
use Rattle.sms_language.specs.Inside.Words.{AreWordsOf}
use Rattle.sms_language.specs.declared.tables.Single.{Single}
use Rattle.sms_language.proofs.WordTables.{default_single_words, default_single, turkish_single_words, turkish_single, spanish_single_words, spanish_single, portuguese_single_words, portuguese_single}
use Rattle.sms_language.proofs.words.single_words.Goals as goal

pub returns-in-Default : goal.returns-in-Default
returns-in-Default c = subst (λ (v : Single). AreWordsOf default_single_words (single_table v)) (sym c.in-Default.is) default_single

pub returns-in-Turkish : goal.returns-in-Turkish
returns-in-Turkish c = subst (λ (v : Single). AreWordsOf turkish_single_words (single_table v)) (sym c.in-Turkish.is) turkish_single

pub returns-in-Spanish : goal.returns-in-Spanish
returns-in-Spanish c = subst (λ (v : Single). AreWordsOf spanish_single_words (single_table v)) (sym c.in-Spanish.is) spanish_single

pub returns-in-Portuguese : goal.returns-in-Portuguese
returns-in-Portuguese c = subst (λ (v : Single). AreWordsOf portuguese_single_words (single_table v)) (sym c.in-Portuguese.is) portuguese_single
