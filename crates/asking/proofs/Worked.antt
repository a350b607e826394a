-- Lines by computation: those of document 01's worked example, one of each word with a list or about one, and unreadable ones.
use mathlib.Core.Path.{◌≡◌, refl}
use mathlib.Core.Bool.{false}
use mathlib.Core.List.{[], ◌∷◌}
use mathlib.Core.Option.{none, some}
use Rattle.ident.specs.declared.Kind.TheVariants.{Txid, Wtxid}
use Rattle.ident.specs.declared.ItemKind.TheVariants.{WitnessTransaction, WTx}
use Rattle.ident.specs.Number.{top}
use Rattle.machine.specs.Call.{Open, On, Announce, Plan, TransactionNotFound}
use Rattle.machine.specs.Fields.{digit_of, further, numeral_of, bool_of, key_of, item_of, same_text, push, fields, taking, elements_then}
use Rattle.reading.specs.Line.{Asks, Take, Send, Part, list_then}
use Rattle.reading.specs.Forms.{plain_then, field_then, form_then}
use Rattle.reading.specs.Lists.{key_list_call, item_list_call, send_line}
use Rattle.asking.specs.Words.{word_of, request_word, package_word, keys_word, hashes_word, plan_word}
use Rattle.asking.specs.Calls.{open_of, number_call, answer_buffer, missing_buffer, plan_line, want_line, take_line, missing_line, part_line, called, line_of}

pub readable :
    -- `open,4,1`
    (line_of (111 ∷ 112 ∷ 101 ∷ 110 ∷ 44 ∷ 52 ∷ 44 ∷ 49 ∷ [])
    ≡ some (Asks (Open 4 1)))
    -- `ann,7,wa,0,0,5`
    × (line_of (97 ∷ 110 ∷ 110 ∷ 44 ∷ 55 ∷ 44 ∷ 119 ∷ 97 ∷ 44 ∷ 48 ∷ 44 ∷ 48 ∷ 44 ∷ 53 ∷ [])
    ≡ some (Asks (On (Announce (record { connection = 7; item = record { kind = WTx; hash = 10 }; ready = 0; preferred = false; priority = 5 })))))
    -- `plan,0`
    × (line_of (112 ∷ 108 ∷ 97 ∷ 110 ∷ 44 ∷ 48 ∷ [])
    ≡ some (Asks (On (Plan 0 none answer_buffer))))
    -- `want,9,2,wa,tb`
    × (line_of (119 ∷ 97 ∷ 110 ∷ 116 ∷ 44 ∷ 57 ∷ 44 ∷ 50 ∷ 44 ∷ 119 ∷ 97 ∷ 44 ∷ 116 ∷ 98 ∷ [])
    ≡ some (Asks (On (Plan 9 (some (record { kind = Wtxid; hash = 10 } ∷ record { kind = Txid; hash = 11 } ∷ [])) answer_buffer))))
    -- `take,0`
    × (line_of (116 ∷ 97 ∷ 107 ∷ 101 ∷ 44 ∷ 48 ∷ [])
    ≡ some (Take 0))
    -- `nfd,7,9,1,va`
    × (line_of (110 ∷ 102 ∷ 100 ∷ 44 ∷ 55 ∷ 44 ∷ 57 ∷ 44 ∷ 49 ∷ 44 ∷ 118 ∷ 97 ∷ [])
    ≡ some (Asks (On (TransactionNotFound 7 (record { kind = WitnessTransaction; hash = 10 } ∷ []) 9 missing_buffer))))
    -- `send,2,7,8`
    × (line_of (115 ∷ 101 ∷ 110 ∷ 100 ∷ 44 ∷ 50 ∷ 44 ∷ 55 ∷ 44 ∷ 56 ∷ [])
    ≡ some (Send (7 ∷ 8 ∷ [])))
    -- `part,7`
    × (line_of (112 ∷ 97 ∷ 114 ∷ 116 ∷ 44 ∷ 55 ∷ [])
    ≡ some (Part 7))
unfolding
    top digit_of further numeral_of bool_of key_of item_of same_text push fields
    taking elements_then list_then plain_then field_then form_then key_list_call item_list_call send_line
    word_of request_word package_word keys_word hashes_word plan_word open_of number_call plan_line want_line take_line missing_line part_line called line_of
readable = (refl, refl, refl, refl, refl, refl, refl, refl)

-- a list shorter than its length, an extra field, a missing field, an unknown word, a leading zero
pub unreadable :
    -- `want,9,2,wa`
    (line_of (119 ∷ 97 ∷ 110 ∷ 116 ∷ 44 ∷ 57 ∷ 44 ∷ 50 ∷ 44 ∷ 119 ∷ 97 ∷ []) ≡ none)
    -- `take,0,0`
    × (line_of (116 ∷ 97 ∷ 107 ∷ 101 ∷ 44 ∷ 48 ∷ 44 ∷ 48 ∷ []) ≡ none)
    -- `plan`
    × (line_of (112 ∷ 108 ∷ 97 ∷ 110 ∷ []) ≡ none)
    -- `plans,0`
    × (line_of (112 ∷ 108 ∷ 97 ∷ 110 ∷ 115 ∷ 44 ∷ 48 ∷ []) ≡ none)
    -- `send,1,07`
    × (line_of (115 ∷ 101 ∷ 110 ∷ 100 ∷ 44 ∷ 49 ∷ 44 ∷ 48 ∷ 55 ∷ []) ≡ none)
unfolding
    top digit_of further numeral_of bool_of key_of item_of same_text push fields
    taking elements_then list_then plain_then field_then form_then key_list_call item_list_call send_line
    word_of request_word package_word keys_word hashes_word plan_word open_of number_call plan_line want_line take_line missing_line part_line called line_of
unreadable = (refl, refl, refl, refl, refl)
