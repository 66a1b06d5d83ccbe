-- The UTF-8 of the characters by code, compared with the tables of the definition, entry by entry.
use Rattle.std.proofs.Common.{◌≡◌, ◌≢◌, ℕ, ◌/◌, ◌<◌, Bool, true, false, ltb, List, [], ◌∷◌, Option, Some, None, get_or, refl, ap, arith, ◌∙◌}
use Rattle.std.specs.Prelude.{◌&&◌, ◌==◌, unwrap_or}
use Rattle.std.specs.Char.{encode_utf8}
use Rattle.std.proofs.Math.Utf8.{scalar}
use Rattle.std.proofs.lemmas.Bool.{eqb-true, ltb-true}
use Rattle.sms_text.specs.Tables.{character_of, space}
use Rattle.sms_text.specs.Inside.Words.{low_octets}
use Rattle.sms_text.specs.Inside.Spelled.{SpellsIn}
use Rattle.sms_language.specs.Tables.{locking_table, single_table}
use Rattle.sms_language.specs.TextUnder.{plain_character, escaped_character}
use Rattle.sms_language.specs.declared.tables.Tables.{Tables}
use Rattle.sms_language.specs.Inside.Words.{AreWords, AreWordsOf, SpellsMaybe}
use Rattle.sms_language.specs.declared.tables.Locking.{Locking}
use Rattle.sms_language.specs.declared.tables.Locking.TheVariants as locking
use Rattle.sms_language.specs.declared.tables.Single.TheVariants as single
use Rattle.sms_language.proofs.Passes.{both, each_passes}

abbrev pub default_plain_words : List ℕ
default_plain_words = 16777280 ∷ 33596354 ∷ 16777252 ∷ 33596866 ∷ 33597635 ∷ 33597891 ∷ 33601987 ∷ 33598659 ∷ 33600195 ∷ 33589187 ∷ 16777226 ∷ 33593539 ∷ 33601731 ∷ 16777229 ∷ 33588675 ∷ 33596867 ∷ 33592526 ∷ 16777311 ∷ 33597134 ∷ 33592270 ∷ 33594318 ∷ 33597902 ∷ 33595598 ∷ 33597646 ∷ 33596366 ∷ 33593550 ∷ 33595086 ∷ 16777248 ∷ 33588931 ∷ 33597123 ∷ 33595331 ∷ 33589699 ∷ 16777248 ∷ 16777249 ∷ 16777250 ∷ 16777251 ∷ 33596610 ∷ 16777253 ∷ 16777254 ∷ 16777255 ∷ 16777256 ∷ 16777257 ∷ 16777258 ∷ 16777259 ∷ 16777260 ∷ 16777261 ∷ 16777262 ∷ 16777263 ∷ 16777264 ∷ 16777265 ∷ 16777266 ∷ 16777267 ∷ 16777268 ∷ 16777269 ∷ 16777270 ∷ 16777271 ∷ 16777272 ∷ 16777273 ∷ 16777274 ∷ 16777275 ∷ 16777276 ∷ 16777277 ∷ 16777278 ∷ 16777279 ∷ 33595842 ∷ 16777281 ∷ 16777282 ∷ 16777283 ∷ 16777284 ∷ 16777285 ∷ 16777286 ∷ 16777287 ∷ 16777288 ∷ 16777289 ∷ 16777290 ∷ 16777291 ∷ 16777292 ∷ 16777293 ∷ 16777294 ∷ 16777295 ∷ 16777296 ∷ 16777297 ∷ 16777298 ∷ 16777299 ∷ 16777300 ∷ 16777301 ∷ 16777302 ∷ 16777303 ∷ 16777304 ∷ 16777305 ∷ 16777306 ∷ 33588419 ∷ 33593027 ∷ 33591747 ∷ 33594563 ∷ 33597378 ∷ 33603522 ∷ 16777313 ∷ 16777314 ∷ 16777315 ∷ 16777316 ∷ 16777317 ∷ 16777318 ∷ 16777319 ∷ 16777320 ∷ 16777321 ∷ 16777322 ∷ 16777323 ∷ 16777324 ∷ 16777325 ∷ 16777326 ∷ 16777327 ∷ 16777328 ∷ 16777329 ∷ 16777330 ∷ 16777331 ∷ 16777332 ∷ 16777333 ∷ 16777334 ∷ 16777335 ∷ 16777336 ∷ 16777337 ∷ 16777338 ∷ 33596611 ∷ 33601219 ∷ 33599939 ∷ 33602755 ∷ 33595587 ∷ []

abbrev pub turkish_plain_words : List ℕ
turkish_plain_words = 16777280 ∷ 33596354 ∷ 16777252 ∷ 33596866 ∷ 61637346 ∷ 33597891 ∷ 33601987 ∷ 33599940 ∷ 33600195 ∷ 33589187 ∷ 16777226 ∷ 33595076 ∷ 33595332 ∷ 16777229 ∷ 33588675 ∷ 33596867 ∷ 33592526 ∷ 16777311 ∷ 33597134 ∷ 33592270 ∷ 33594318 ∷ 33597902 ∷ 33595598 ∷ 33597646 ∷ 33596366 ∷ 33593550 ∷ 33595086 ∷ 16777248 ∷ 33595077 ∷ 33595333 ∷ 33595331 ∷ 33589699 ∷ 16777248 ∷ 16777249 ∷ 16777250 ∷ 16777251 ∷ 33596610 ∷ 16777253 ∷ 16777254 ∷ 16777255 ∷ 16777256 ∷ 16777257 ∷ 16777258 ∷ 16777259 ∷ 16777260 ∷ 16777261 ∷ 16777262 ∷ 16777263 ∷ 16777264 ∷ 16777265 ∷ 16777266 ∷ 16777267 ∷ 16777268 ∷ 16777269 ∷ 16777270 ∷ 16777271 ∷ 16777272 ∷ 16777273 ∷ 16777274 ∷ 16777275 ∷ 16777276 ∷ 16777277 ∷ 16777278 ∷ 16777279 ∷ 33599684 ∷ 16777281 ∷ 16777282 ∷ 16777283 ∷ 16777284 ∷ 16777285 ∷ 16777286 ∷ 16777287 ∷ 16777288 ∷ 16777289 ∷ 16777290 ∷ 16777291 ∷ 16777292 ∷ 16777293 ∷ 16777294 ∷ 16777295 ∷ 16777296 ∷ 16777297 ∷ 16777298 ∷ 16777299 ∷ 16777300 ∷ 16777301 ∷ 16777302 ∷ 16777303 ∷ 16777304 ∷ 16777305 ∷ 16777306 ∷ 33588419 ∷ 33593027 ∷ 33591747 ∷ 33594563 ∷ 33597378 ∷ 33597379 ∷ 16777313 ∷ 16777314 ∷ 16777315 ∷ 16777316 ∷ 16777317 ∷ 16777318 ∷ 16777319 ∷ 16777320 ∷ 16777321 ∷ 16777322 ∷ 16777323 ∷ 16777324 ∷ 16777325 ∷ 16777326 ∷ 16777327 ∷ 16777328 ∷ 16777329 ∷ 16777330 ∷ 16777331 ∷ 16777332 ∷ 16777333 ∷ 16777334 ∷ 16777335 ∷ 16777336 ∷ 16777337 ∷ 16777338 ∷ 33596611 ∷ 33601219 ∷ 33599939 ∷ 33602755 ∷ 33595587 ∷ []

abbrev pub portuguese_plain_words : List ℕ
portuguese_plain_words = 16777280 ∷ 33596354 ∷ 16777252 ∷ 33596866 ∷ 33598147 ∷ 33597891 ∷ 33602243 ∷ 33598915 ∷ 33600451 ∷ 33597379 ∷ 16777226 ∷ 33592515 ∷ 33600707 ∷ 16777229 ∷ 33587651 ∷ 33595843 ∷ 33592526 ∷ 16777311 ∷ 33598146 ∷ 33589187 ∷ 33587395 ∷ 60721378 ∷ 16777310 ∷ 16777308 ∷ 61637346 ∷ 33592259 ∷ 16777340 ∷ 16777248 ∷ 33587907 ∷ 33596099 ∷ 33589955 ∷ 33589699 ∷ 16777248 ∷ 16777249 ∷ 16777250 ∷ 16777251 ∷ 33602242 ∷ 16777253 ∷ 16777254 ∷ 16777255 ∷ 16777256 ∷ 16777257 ∷ 16777258 ∷ 16777259 ∷ 16777260 ∷ 16777261 ∷ 16777262 ∷ 16777263 ∷ 16777264 ∷ 16777265 ∷ 16777266 ∷ 16777267 ∷ 16777268 ∷ 16777269 ∷ 16777270 ∷ 16777271 ∷ 16777272 ∷ 16777273 ∷ 16777274 ∷ 16777275 ∷ 16777276 ∷ 16777277 ∷ 16777278 ∷ 16777279 ∷ 33590723 ∷ 16777281 ∷ 16777282 ∷ 16777283 ∷ 16777284 ∷ 16777285 ∷ 16777286 ∷ 16777287 ∷ 16777288 ∷ 16777289 ∷ 16777290 ∷ 16777291 ∷ 16777292 ∷ 16777293 ∷ 16777294 ∷ 16777295 ∷ 16777296 ∷ 16777297 ∷ 16777298 ∷ 16777299 ∷ 16777300 ∷ 16777301 ∷ 16777302 ∷ 16777303 ∷ 16777304 ∷ 16777305 ∷ 16777306 ∷ 33588163 ∷ 33592771 ∷ 33594051 ∷ 33594563 ∷ 33597378 ∷ 16777342 ∷ 16777313 ∷ 16777314 ∷ 16777315 ∷ 16777316 ∷ 16777317 ∷ 16777318 ∷ 16777319 ∷ 16777320 ∷ 16777321 ∷ 16777322 ∷ 16777323 ∷ 16777324 ∷ 16777325 ∷ 16777326 ∷ 16777327 ∷ 16777328 ∷ 16777329 ∷ 16777330 ∷ 16777331 ∷ 16777332 ∷ 16777333 ∷ 16777334 ∷ 16777335 ∷ 16777336 ∷ 16777337 ∷ 16777338 ∷ 33596355 ∷ 33600963 ∷ 16777312 ∷ 33602755 ∷ 33595587 ∷ []

abbrev pub default_single_words : List ℕ
default_single_words = 0 ∷ 0 ∷ 0 ∷ 0 ∷ 0 ∷ 0 ∷ 0 ∷ 0 ∷ 0 ∷ 0 ∷ 16777228 ∷ 0 ∷ 0 ∷ 0 ∷ 0 ∷ 0 ∷ 0 ∷ 0 ∷ 0 ∷ 0 ∷ 16777310 ∷ 0 ∷ 0 ∷ 0 ∷ 0 ∷ 0 ∷ 0 ∷ 0 ∷ 0 ∷ 0 ∷ 0 ∷ 0 ∷ 0 ∷ 0 ∷ 0 ∷ 0 ∷ 0 ∷ 0 ∷ 0 ∷ 0 ∷ 16777339 ∷ 16777341 ∷ 0 ∷ 0 ∷ 0 ∷ 0 ∷ 0 ∷ 16777308 ∷ 0 ∷ 0 ∷ 0 ∷ 0 ∷ 0 ∷ 0 ∷ 0 ∷ 0 ∷ 0 ∷ 0 ∷ 0 ∷ 0 ∷ 16777307 ∷ 16777342 ∷ 16777309 ∷ 0 ∷ 16777340 ∷ 0 ∷ 0 ∷ 0 ∷ 0 ∷ 0 ∷ 0 ∷ 0 ∷ 0 ∷ 0 ∷ 0 ∷ 0 ∷ 0 ∷ 0 ∷ 0 ∷ 0 ∷ 0 ∷ 0 ∷ 0 ∷ 0 ∷ 0 ∷ 0 ∷ 0 ∷ 0 ∷ 0 ∷ 0 ∷ 0 ∷ 0 ∷ 0 ∷ 0 ∷ 0 ∷ 0 ∷ 0 ∷ 0 ∷ 0 ∷ 0 ∷ 0 ∷ 61637346 ∷ 0 ∷ 0 ∷ 0 ∷ 0 ∷ 0 ∷ 0 ∷ 0 ∷ 0 ∷ 0 ∷ 0 ∷ 0 ∷ 0 ∷ 0 ∷ 0 ∷ 0 ∷ 0 ∷ 0 ∷ 0 ∷ 0 ∷ 0 ∷ 0 ∷ 0 ∷ 0 ∷ 0 ∷ 0 ∷ 0 ∷ []

abbrev pub turkish_single_words : List ℕ
turkish_single_words = 0 ∷ 0 ∷ 0 ∷ 0 ∷ 0 ∷ 0 ∷ 0 ∷ 0 ∷ 0 ∷ 0 ∷ 16777228 ∷ 0 ∷ 0 ∷ 0 ∷ 0 ∷ 0 ∷ 0 ∷ 0 ∷ 0 ∷ 0 ∷ 16777310 ∷ 0 ∷ 0 ∷ 0 ∷ 0 ∷ 0 ∷ 0 ∷ 0 ∷ 0 ∷ 0 ∷ 0 ∷ 0 ∷ 0 ∷ 0 ∷ 0 ∷ 0 ∷ 0 ∷ 0 ∷ 0 ∷ 0 ∷ 16777339 ∷ 16777341 ∷ 0 ∷ 0 ∷ 0 ∷ 0 ∷ 0 ∷ 16777308 ∷ 0 ∷ 0 ∷ 0 ∷ 0 ∷ 0 ∷ 0 ∷ 0 ∷ 0 ∷ 0 ∷ 0 ∷ 0 ∷ 0 ∷ 16777307 ∷ 16777342 ∷ 16777309 ∷ 0 ∷ 16777340 ∷ 0 ∷ 0 ∷ 0 ∷ 0 ∷ 0 ∷ 0 ∷ 33595076 ∷ 0 ∷ 33599684 ∷ 0 ∷ 0 ∷ 0 ∷ 0 ∷ 0 ∷ 0 ∷ 0 ∷ 0 ∷ 0 ∷ 33595077 ∷ 0 ∷ 0 ∷ 0 ∷ 0 ∷ 0 ∷ 0 ∷ 0 ∷ 0 ∷ 0 ∷ 0 ∷ 0 ∷ 0 ∷ 0 ∷ 0 ∷ 0 ∷ 33597379 ∷ 0 ∷ 61637346 ∷ 0 ∷ 33595332 ∷ 0 ∷ 33599940 ∷ 0 ∷ 0 ∷ 0 ∷ 0 ∷ 0 ∷ 0 ∷ 0 ∷ 0 ∷ 0 ∷ 33595333 ∷ 0 ∷ 0 ∷ 0 ∷ 0 ∷ 0 ∷ 0 ∷ 0 ∷ 0 ∷ 0 ∷ 0 ∷ 0 ∷ 0 ∷ []

abbrev pub spanish_single_words : List ℕ
spanish_single_words = 0 ∷ 0 ∷ 0 ∷ 0 ∷ 0 ∷ 0 ∷ 0 ∷ 0 ∷ 0 ∷ 33597379 ∷ 16777228 ∷ 0 ∷ 0 ∷ 0 ∷ 0 ∷ 0 ∷ 0 ∷ 0 ∷ 0 ∷ 0 ∷ 16777310 ∷ 0 ∷ 0 ∷ 0 ∷ 0 ∷ 0 ∷ 0 ∷ 0 ∷ 0 ∷ 0 ∷ 0 ∷ 0 ∷ 0 ∷ 0 ∷ 0 ∷ 0 ∷ 0 ∷ 0 ∷ 0 ∷ 0 ∷ 16777339 ∷ 16777341 ∷ 0 ∷ 0 ∷ 0 ∷ 0 ∷ 0 ∷ 16777308 ∷ 0 ∷ 0 ∷ 0 ∷ 0 ∷ 0 ∷ 0 ∷ 0 ∷ 0 ∷ 0 ∷ 0 ∷ 0 ∷ 0 ∷ 16777307 ∷ 16777342 ∷ 16777309 ∷ 0 ∷ 16777340 ∷ 33587651 ∷ 0 ∷ 0 ∷ 0 ∷ 0 ∷ 0 ∷ 0 ∷ 0 ∷ 33590723 ∷ 0 ∷ 0 ∷ 0 ∷ 0 ∷ 0 ∷ 33592259 ∷ 0 ∷ 0 ∷ 0 ∷ 0 ∷ 0 ∷ 33594051 ∷ 0 ∷ 0 ∷ 0 ∷ 0 ∷ 0 ∷ 0 ∷ 0 ∷ 0 ∷ 0 ∷ 0 ∷ 0 ∷ 33595843 ∷ 0 ∷ 0 ∷ 0 ∷ 61637346 ∷ 0 ∷ 0 ∷ 0 ∷ 33598915 ∷ 0 ∷ 0 ∷ 0 ∷ 0 ∷ 0 ∷ 33600451 ∷ 0 ∷ 0 ∷ 0 ∷ 0 ∷ 0 ∷ 33602243 ∷ 0 ∷ 0 ∷ 0 ∷ 0 ∷ 0 ∷ 0 ∷ 0 ∷ 0 ∷ 0 ∷ 0 ∷ []

abbrev pub portuguese_single_words : List ℕ
portuguese_single_words = 0 ∷ 0 ∷ 0 ∷ 0 ∷ 0 ∷ 33598147 ∷ 0 ∷ 0 ∷ 0 ∷ 33597379 ∷ 16777228 ∷ 33592515 ∷ 33600707 ∷ 0 ∷ 33587651 ∷ 33595843 ∷ 0 ∷ 0 ∷ 33597134 ∷ 33592270 ∷ 16777310 ∷ 33597902 ∷ 33595598 ∷ 33597646 ∷ 33596366 ∷ 33593550 ∷ 0 ∷ 0 ∷ 0 ∷ 0 ∷ 0 ∷ 33589955 ∷ 0 ∷ 0 ∷ 0 ∷ 0 ∷ 0 ∷ 0 ∷ 0 ∷ 0 ∷ 16777339 ∷ 16777341 ∷ 0 ∷ 0 ∷ 0 ∷ 0 ∷ 0 ∷ 16777308 ∷ 0 ∷ 0 ∷ 0 ∷ 0 ∷ 0 ∷ 0 ∷ 0 ∷ 0 ∷ 0 ∷ 0 ∷ 0 ∷ 0 ∷ 16777307 ∷ 16777342 ∷ 16777309 ∷ 0 ∷ 16777340 ∷ 33587395 ∷ 0 ∷ 0 ∷ 0 ∷ 0 ∷ 0 ∷ 0 ∷ 0 ∷ 33590723 ∷ 0 ∷ 0 ∷ 0 ∷ 0 ∷ 0 ∷ 33592259 ∷ 0 ∷ 0 ∷ 0 ∷ 0 ∷ 0 ∷ 33594051 ∷ 0 ∷ 0 ∷ 0 ∷ 0 ∷ 0 ∷ 33588163 ∷ 33592771 ∷ 0 ∷ 0 ∷ 0 ∷ 0 ∷ 33587907 ∷ 0 ∷ 0 ∷ 0 ∷ 61637346 ∷ 0 ∷ 0 ∷ 0 ∷ 33598915 ∷ 0 ∷ 0 ∷ 0 ∷ 0 ∷ 0 ∷ 33600451 ∷ 0 ∷ 0 ∷ 0 ∷ 0 ∷ 0 ∷ 33602243 ∷ 0 ∷ 0 ∷ 0 ∷ 0 ∷ 0 ∷ 33596355 ∷ 33600963 ∷ 0 ∷ 0 ∷ 33596099 ∷ []

-- ---- one word

abbrev same_lists : List ℕ → List ℕ → Bool
same_lists [] [] = true
same_lists (x ∷ xs) (y ∷ ys) = (x == y) && same_lists xs ys
same_lists _ _ = false

lists_are : (xs ys : List ℕ) → same_lists xs ys ≡ true → xs ≡ ys
lists_are [] [] e = refl
lists_are (x ∷ xs) [] e = absurd cc
lists_are [] (y ∷ ys) e = absurd cc
lists_are (x ∷ xs) (y ∷ ys) e =
    let h = both (x == y) (same_lists xs ys) e in
    ap (λ (n : ℕ). n ∷ xs) (eqb-true x y h.0) ∙ ap (λ (l : List ℕ). y ∷ l) (lists_are xs ys h.1)

abbrev spells : ℕ → ℕ → Bool
spells word c = ltb (word / 16777216) 4 && same_lists (low_octets (word / 16777216) word) (encode_utf8 c)

pub spelled : (word c : ℕ) → spells word c ≡ true → SpellsIn word c
spelled word c e =
    let h = both (ltb (word / 16777216) 4) _ e in
    record { few = ltb-true (word / 16777216) 4 h.0; octets = lists_are (low_octets (word / 16777216) word) (encode_utf8 c) h.1 }

pub space_spelled : SpellsIn 16777248 space
unfolding low_octets encode_utf8
space_spelled = spelled 16777248 space refl

-- ---- a table of words

abbrev word_test : List ℕ → (ℕ → ℕ) → ℕ → Bool
word_test words character code = spells (get_or words code 0) (character code) && scalar (character code)

abbrev pub plain_by : Locking → ℕ → ℕ
plain_by l code = unwrap_or (character_of (locking_table l) code) space

-- a word, 0 where there is no character
abbrev word_or_none : ℕ → Option ℕ → Bool
word_or_none word None = word == 0
word_or_none word (Some c) = ltb 0 word && (spells word c && scalar c)

pub is_maybe : (word : ℕ) (o : Option ℕ) → word_or_none word o ≡ true → SpellsMaybe word o
is_maybe word None e = eqb-true word 0 e
is_maybe word (Some c) e =
    let h = both (ltb 0 word) (spells word c && scalar c) e in
    let k = both (spells word c) (scalar c) h.1 in
    (ltb-true 0 word h.0, spelled word c k.0, k.1)

abbrev single_test : List ℕ → List (ℕ × ℕ) → ℕ → Bool
single_test words table code = word_or_none (get_or words code 0) (character_of table code)

pub default_plain : AreWords default_plain_words (plain_by locking.Default)
unfolding character_of low_octets encode_utf8
default_plain = record {
  size = refl;
  each = λ (code : ℕ) (small : code < 128). spelled _ _ (both _ _ (each_passes (word_test default_plain_words (plain_by locking.Default)) 128 code refl small)).0;
  scalar = λ (code : ℕ) (small : code < 128). (both _ _ (each_passes (word_test default_plain_words (plain_by locking.Default)) 128 code refl small)).1;
}

pub turkish_plain : AreWords turkish_plain_words (plain_by locking.Turkish)
unfolding character_of low_octets encode_utf8
turkish_plain = record {
  size = refl;
  each = λ (code : ℕ) (small : code < 128). spelled _ _ (both _ _ (each_passes (word_test turkish_plain_words (plain_by locking.Turkish)) 128 code refl small)).0;
  scalar = λ (code : ℕ) (small : code < 128). (both _ _ (each_passes (word_test turkish_plain_words (plain_by locking.Turkish)) 128 code refl small)).1;
}

pub portuguese_plain : AreWords portuguese_plain_words (plain_by locking.Portuguese)
unfolding character_of low_octets encode_utf8
portuguese_plain = record {
  size = refl;
  each = λ (code : ℕ) (small : code < 128). spelled _ _ (both _ _ (each_passes (word_test portuguese_plain_words (plain_by locking.Portuguese)) 128 code refl small)).0;
  scalar = λ (code : ℕ) (small : code < 128). (both _ _ (each_passes (word_test portuguese_plain_words (plain_by locking.Portuguese)) 128 code refl small)).1;
}

pub default_single : AreWordsOf default_single_words (single_table single.Default)
unfolding character_of low_octets encode_utf8
default_single = record {
  size = refl;
  each = λ (code : ℕ) (small : code < 128). is_maybe _ _ (each_passes (single_test default_single_words (single_table single.Default)) 128 code refl small);
}

pub turkish_single : AreWordsOf turkish_single_words (single_table single.Turkish)
unfolding character_of low_octets encode_utf8
turkish_single = record {
  size = refl;
  each = λ (code : ℕ) (small : code < 128). is_maybe _ _ (each_passes (single_test turkish_single_words (single_table single.Turkish)) 128 code refl small);
}

pub spanish_single : AreWordsOf spanish_single_words (single_table single.Spanish)
unfolding character_of low_octets encode_utf8
spanish_single = record {
  size = refl;
  each = λ (code : ℕ) (small : code < 128). is_maybe _ _ (each_passes (single_test spanish_single_words (single_table single.Spanish)) 128 code refl small);
}

pub portuguese_single : AreWordsOf portuguese_single_words (single_table single.Portuguese)
unfolding character_of low_octets encode_utf8
portuguese_single = record {
  size = refl;
  each = λ (code : ℕ) (small : code < 128). is_maybe _ _ (each_passes (single_test portuguese_single_words (single_table single.Portuguese)) 128 code refl small);
}

-- ---- a code after the escape

pub spelled_reserved : (word other c : ℕ) (o : Option ℕ) → SpellsMaybe word o → word ≡ 0 → SpellsIn other c → SpellsIn other (unwrap_or o c)
spelled_reserved word other c None w none s = s
spelled_reserved word other c (Some d) w none s = absurd (omega (arith, w.0, none))

pub spelled_listed : (word c : ℕ) (o : Option ℕ) → SpellsMaybe word o → word ≢ 0 → SpellsIn word (unwrap_or o c)
spelled_listed word c None w some = absurd (some w)
spelled_listed word c (Some d) w some = w.1

pub scalar_either : (word c : ℕ) (o : Option ℕ) → SpellsMaybe word o → scalar c ≡ true → scalar (unwrap_or o c) ≡ true
scalar_either word c None w s = s
scalar_either word c (Some d) w s = w.2

pub escaped_scalar : (tables : Tables) (plain words : List ℕ) → AreWords plain (plain_character tables) → AreWordsOf words (single_table tables.single) → (code : ℕ) → code < 128 → scalar (escaped_character tables code) ≡ true
escaped_scalar tables plain words p s code small =
    scalar_either (get_or words code 0) (plain_character tables code) (character_of (single_table tables.single) code) (s.each code small) (p.scalar code small)
