-- Outcomes that were worked out by hand: lawful ones, and ones with one thing changed that are not.
use Rattle.partial_model.proofs.{Common.{ℕ, ◌≡◌, true, false, List, [], ◌∷◌, refl, sym, ◌∙◌, Option, Some, None, true≢false, Applied, Opening, Call, Answer, Note, Called, LegalOutcome, is_legal_outcome}, PortLaws.Decides-is_legal_outcome}
use Rattle.partial_model.specs.declared.call.Refused.{Refused}
use Rattle.partial_model.specs.History.{last_from}

abbrev Unlawful : Opening → List Applied → List Called → Type 0
Unlawful o h calls = LegalOutcome o h calls → ⊥

-- an outcome that passes the tests is lawful, and another is not
lawful : (o : Opening) (h : List Applied) (calls : List Called) → is_legal_outcome o h calls ≡ true → LegalOutcome o h calls
lawful o h calls passes = (Decides-is_legal_outcome o h calls).0 passes

unlawful : (o : Opening) (h : List Applied) (calls : List Called) → is_legal_outcome o h calls ≡ false → Unlawful o h calls
unlawful o h calls fails w = true≢false (sym ((Decides-is_legal_outcome o h calls).1 w) ∙ fails)

-- two components that open with 10 and 20, and with the stamps 18 and 21
abbrev two : Opening
two = record { values = 10 ∷ 20 ∷ []; first = 18 }

-- an entry: its port, component, value and stamp
abbrev entry : ℕ → ℕ → ℕ → ℕ → Applied
entry p j v t = record { port = p; component = j; value = v; stamp = t }

-- a finished call: its port and number, the call, when it began and ended, its answer and its note
abbrev done : ℕ → ℕ → Call → ℕ → ℕ → Answer → Option Note → Called
done p n c began ended a note = record { port = p; number = n; call = c; began = began; steps = 0; finish = Some (record { ended = ended; answer = a; note = note }) }

-- a call that its port has begun and not finished
abbrev begun : ℕ → ℕ → Call → ℕ → Called
begun p n c began = record { port = p; number = n; call = c; began = began; steps = 0; finish = None }

-- ---- lawful ones

nothing_at_all : LegalOutcome two [] []
nothing_at_all = lawful two [] [] refl

abbrev whole_scan_calls : ℕ → List Called
whole_scan_calls collects = done 0 0 (Call.Scan (0 ∷ 1 ∷ [])) 0 0 (Answer.Scanned (10 ∷ 20 ∷ []) collects None) (Some (Note.Saw 0)) ∷ []

whole_scan : LegalOutcome two [] (whole_scan_calls 2)
unfolding last_from
whole_scan = lawful two [] (whole_scan_calls 2) refl

four_collects : LegalOutcome two [] (whole_scan_calls 4)
unfolding last_from
four_collects = lawful two [] (whole_scan_calls 4) refl

abbrev write_then_read_calls : ℕ → List Called
write_then_read_calls t = done 0 0 (Call.Update 0 7) 0 1 (Answer.Applied t) (Some (Note.Wrote 0)) ∷ done 0 1 (Call.Read 0) 1 1 (Answer.Read 7 t) (Some (Note.Saw 1)) ∷ []

write_then_read : LegalOutcome two (entry 0 0 7 24 ∷ []) (write_then_read_calls 24)
unfolding last_from
write_then_read = lawful two (entry 0 0 7 24 ∷ []) (write_then_read_calls 24) refl

-- the update that came too late, with what is said of it, beside the one that was applied
abbrev exchange_calls : ℕ → Answer → Note → List Called
exchange_calls began a n = done 0 0 (Call.Update 0 7) began 1 a (Some n) ∷ done 1 0 (Call.Update 0 9) 0 1 (Answer.Applied 27) (Some (Note.Wrote 0)) ∷ []

abbrev exchanged : List Applied
exchanged = entry 1 0 9 27 ∷ []

lost_exchange : LegalOutcome two exchanged (exchange_calls 0 (Answer.Lost 27) (Note.Lost 0))
unfolding last_from
lost_exchange = lawful two exchanged (exchange_calls 0 (Answer.Lost 27) (Note.Lost 0)) refl

abbrev two_components_calls : List Called
two_components_calls = done 0 0 (Call.Update 0 7) 0 2 (Answer.Applied 24) (Some (Note.Wrote 1)) ∷ done 1 0 (Call.Update 1 9) 0 1 (Answer.Applied 27) (Some (Note.Wrote 0)) ∷ []

two_components : LegalOutcome two (entry 1 1 9 27 ∷ entry 0 0 7 24 ∷ []) two_components_calls
unfolding last_from
two_components = lawful two (entry 1 1 9 27 ∷ entry 0 0 7 24 ∷ []) two_components_calls refl

-- a scan of component 0 beside two updates of port 1
abbrev scan_beside : ℕ → ℕ → ℕ → Option ℕ → ℕ → List Called
scan_beside first second seen borrowed prefix =
    done 0 0 (Call.Scan (0 ∷ [])) 0 2 (Answer.Scanned (seen ∷ []) 3 borrowed) (Some (Note.Saw prefix)) ∷ done 1 0 (Call.Update 0 first) 0 1 (Answer.Applied 26) (Some (Note.Wrote 0)) ∷
    done 1 1 (Call.Update 0 second) 1 2 (Answer.Applied 32) (Some (Note.Wrote 1)) ∷ []

abbrev two_updates : ℕ → ℕ → List Applied
two_updates first second = entry 1 0 first 26 ∷ entry 1 0 second 32 ∷ []

value_set_back : LegalOutcome two (two_updates 10 10) (scan_beside 10 10 10 None 0)
unfolding last_from
value_set_back = lawful two (two_updates 10 10) (scan_beside 10 10 10 None 0) refl

borrowed_view : LegalOutcome two (two_updates 5 6) (scan_beside 5 6 5 (Some 32) 1)
unfolding last_from
borrowed_view = lawful two (two_updates 5 6) (scan_beside 5 6 5 (Some 32) 1) refl

abbrev empty_scan_calls : List Called
empty_scan_calls = done 0 0 (Call.Scan []) 0 0 (Answer.Scanned [] 0 None) (Some (Note.Saw 0)) ∷ []

empty_scan : LegalOutcome two [] empty_scan_calls
unfolding last_from
empty_scan = lawful two [] empty_scan_calls refl

abbrev three : Opening
three = record { values = 10 ∷ 20 ∷ 30 ∷ []; first = 18 }

abbrev repeated_position_calls : List Called
repeated_position_calls = done 0 0 (Call.Scan (0 ∷ 0 ∷ 1 ∷ [])) 0 0 (Answer.Scanned (10 ∷ 10 ∷ 20 ∷ []) 2 None) (Some (Note.Saw 0)) ∷ []

repeated_position : LegalOutcome three [] repeated_position_calls
unfolding last_from
repeated_position = lawful three [] repeated_position_calls refl

-- a scan that borrows a view which was borrowed itself
abbrev chain_entries : List Applied
chain_entries = entry 3 0 5 28 ∷ entry 3 1 8 36 ∷ entry 3 1 9 42 ∷ entry 2 0 7 48 ∷ []

abbrev chain_calls : List Called
chain_calls =
    done 0 0 (Call.Scan (1 ∷ [])) 0 1 (Answer.Scanned (20 ∷ []) 2 None) (Some (Note.Saw 0)) ∷ done 1 0 (Call.Scan (0 ∷ [])) 0 4 (Answer.Scanned (5 ∷ []) 3 (Some 48)) (Some (Note.Saw 1)) ∷
    done 2 0 (Call.Update 0 7) 1 4 (Answer.Applied 48) (Some (Note.Wrote 3))
    ∷ done 3 0 (Call.Update 0 5) 0 1 (Answer.Applied 28) (Some (Note.Wrote 0)) ∷ done 3 1 (Call.Update 1 8) 1 2 (Answer.Applied 36) (Some (Note.Wrote 1)) ∷
    done 3 2 (Call.Update 1 9) 2 3 (Answer.Applied 42) (Some (Note.Wrote 2)) ∷ []

borrowed_chain : LegalOutcome two chain_entries chain_calls
unfolding last_from
borrowed_chain = lawful two chain_entries chain_calls refl

abbrev pool_spent_calls : List Called
pool_spent_calls =
    done 0 0 (Call.Update 0 7) 0 1 (Answer.Applied 24) (Some (Note.Wrote 0)) ∷ done 0 1 (Call.Update 0 8) 1 1 (Answer.Refused Refused.PoolSpent) None ∷
    done 0 2 (Call.Update 1 9) 1 1 (Answer.Refused Refused.PoolSpent) None ∷ done 0 3 (Call.Read 0) 1 1 (Answer.Read 7 24) (Some (Note.Saw 1)) ∷ []

pool_spent : LegalOutcome two (entry 0 0 7 24 ∷ []) pool_spent_calls
unfolding last_from
pool_spent = lawful two (entry 0 0 7 24 ∷ []) pool_spent_calls refl

abbrev stopped_joiner_calls : List Called
stopped_joiner_calls = begun 0 0 (Call.Scan (0 ∷ [])) 0 ∷ done 1 0 (Call.Update 0 7) 0 1 (Answer.Applied 26) (Some (Note.Wrote 0)) ∷ []

stopped_joiner : LegalOutcome two (entry 1 0 7 26 ∷ []) stopped_joiner_calls
unfolding last_from
stopped_joiner = lawful two (entry 1 0 7 26 ∷ []) stopped_joiner_calls refl

abbrev conditional_calls : List Called
conditional_calls =
    done 0 0 (Call.UpdateIf 0 18 7) 0 1 (Answer.Applied 24) (Some (Note.Wrote 0)) ∷ done 0 1 (Call.UpdateIf 0 18 8) 1 1 (Answer.Changed 24) (Some (Note.Saw 1)) ∷ done 0 2 (Call.UpdateIf 0 24 9) 1 2
    (Answer.Applied 27) (Some (Note.Wrote 1)) ∷ []

conditional : LegalOutcome two (entry 0 0 7 24 ∷ entry 0 0 9 27 ∷ []) conditional_calls
unfolding last_from
conditional = lawful two (entry 0 0 7 24 ∷ entry 0 0 9 27 ∷ []) conditional_calls refl

abbrev greatest_value_calls : List Called
greatest_value_calls = done 0 0 (Call.Update 1 18446744073709551615) 0 1 (Answer.Applied 24) (Some (Note.Wrote 0)) ∷ done 0 1 (Call.Read 1) 1 1 (Answer.Read 18446744073709551615 24)
    (Some (Note.Saw 1)) ∷ []

greatest_value : LegalOutcome two (entry 0 1 18446744073709551615 24 ∷ []) greatest_value_calls
unfolding last_from
greatest_value = lawful two (entry 0 1 18446744073709551615 24 ∷ []) greatest_value_calls refl

-- ---- unlawful ones

-- the update that came too late claims an entry that isn't its own
lost_as_applied : Unlawful two exchanged (exchange_calls 0 (Answer.Applied 24) (Note.Wrote 0))
unfolding last_from
lost_as_applied = unlawful two exchanged (exchange_calls 0 (Answer.Applied 24) (Note.Wrote 0)) refl

-- it names a stamp that no entry has
lost_to_the_opening : Unlawful two exchanged (exchange_calls 0 (Answer.Lost 18) (Note.Lost 0))
unfolding last_from
lost_to_the_opening = unlawful two exchanged (exchange_calls 0 (Answer.Lost 18) (Note.Lost 0)) refl

-- the value of the last update, noted of the prefix before it
value_from_the_future : Unlawful two (two_updates 5 6) (scan_beside 5 6 6 (Some 32) 1)
unfolding last_from
value_from_the_future = unlawful two (two_updates 5 6) (scan_beside 5 6 6 (Some 32) 1) refl

entry_doubled : Unlawful two (entry 0 0 7 24 ∷ entry 0 0 7 24 ∷ []) (write_then_read_calls 24)
unfolding last_from
entry_doubled = unlawful two (entry 0 0 7 24 ∷ entry 0 0 7 24 ∷ []) (write_then_read_calls 24) refl

began_behind_its_place : Unlawful two exchanged (exchange_calls 1 (Answer.Lost 27) (Note.Lost 0))
unfolding last_from
began_behind_its_place = unlawful two exchanged (exchange_calls 1 (Answer.Lost 27) (Note.Lost 0)) refl

five_collects : Unlawful two [] (whole_scan_calls 5)
unfolding last_from
five_collects = unlawful two [] (whole_scan_calls 5) refl

borrowed_before_the_prefix : Unlawful two (two_updates 5 6) (scan_beside 5 6 6 (Some 32) 2)
unfolding last_from
borrowed_before_the_prefix = unlawful two (two_updates 5 6) (scan_beside 5 6 6 (Some 32) 2) refl
