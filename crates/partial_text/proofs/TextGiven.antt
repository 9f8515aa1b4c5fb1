-- How a text that is given piece by piece is put together.
use Rattle.partial_text.proofs.Common.{◌≡◌, ℕ, ◌+◌, Bool, true, false, List, [], ◌++◌, length, take, Option, refl, sym, ap, subst, ◌∙◌, append_assoc, append-nil, arith, take_all, cases_lt, inl, inr, Result, Ok, Err, Appends}
use Rattle.std.specs.Prelude.{⊤, ◌↔◌, MatchBool, OnOk, OnErr, IfErr, IsErrOf}
use Rattle.partial_text.specs.declared.fault.OutcomeError.{OutcomeError}
use Rattle.std.proofs.Math.Seq.{take-append-le, take-append-add}
use Rattle.partial_text.proofs.Bytes.{Appends_none, Appends_then}
use Rattle.partial_text.specs.Inner.TextGiven.{TextGiven, IsGiven, GivesBytes}

-- a part of a text is one of a longer text
part_of_more : (n : ℕ) (text bytes : List ℕ) → (m : ℕ) × (take n text ≡ take m (text ++ bytes))
part_of_more n text bytes =
    elim (cases_lt (length text) n) [
      | inl less ↦ (length text, take_all n text (omega arith) ∙ sym (take-append-le (length text) text bytes (omega arith) ∙ take_all (length text) text (omega arith)))
      | inr most ↦ (n, sym (take-append-le n text bytes most))
    ]

-- a text that is given in two pieces is given
pub tells_then : (a b c : TextGiven) (xs ys : List ℕ) → GivesBytes a xs b → GivesBytes b ys c → GivesBytes a (xs ++ ys) c
tells_then a b c xs ys p q =
    record { behind = λ before text told. subst (λ (t : List ℕ). IsGiven before t c) (append_assoc text xs ys) (q.behind before (text ++ xs) (p.behind before text told)) }

-- so is one that is given in two pieces, of which the second one has two
pub tells_more : (a b c : TextGiven) (xs ys zs : List ℕ) → GivesBytes a xs b → GivesBytes b (ys ++ zs) c → GivesBytes a ((xs ++ ys) ++ zs) c
tells_more a b c xs ys zs p q = subst (λ (t : List ℕ). GivesBytes a t c) (sym (append_assoc xs ys zs)) (tells_then a b c xs (ys ++ zs) p q)

-- a text that is given piece by piece
pub ruleset tellings = (tells_then, tells_more)

told_behind : (before : Option (List ℕ)) (text gathered bytes : List ℕ) (written : Option (List ℕ)) (failed : Bool) →
    IsGiven before text (record { gathered = gathered; written = written; failed = failed }) →
    IsGiven before (text ++ bytes) (record { gathered = gathered ++ bytes; written = written; failed = failed })
told_behind before text gathered bytes written false told = (told.0, told.1, ap (λ (t : List ℕ). t ++ bytes) told.2 ∙ append_assoc told.0 gathered bytes)
told_behind before text gathered bytes written true told =
    let more = part_of_more told.0 text bytes in (more.0, subst (λ (t : List ℕ). Appends before written t) more.1 told.1)

-- what is gathered is given
pub tells_gathered : (gathered bytes : List ℕ) (written : Option (List ℕ)) (failed : Bool) →
    GivesBytes (record { gathered = gathered; written = written; failed = failed }) bytes (record { gathered = gathered ++ bytes; written = written; failed = failed })
tells_gathered gathered bytes written failed = record { behind = λ before text told. told_behind before text gathered bytes written failed told }

-- once a write has failed, bytes are given by writing nothing
pub tells_unwritten : (bytes : List ℕ) (written : Option (List ℕ)) →
    GivesBytes (record { gathered = []; written = written; failed = true }) bytes (record { gathered = []; written = written; failed = true })
tells_unwritten bytes written = record { behind = λ before text told. told_behind before text [] bytes written true told }

-- bytes that are written are given
tells_written : (bytes : List ℕ) (old new : Option (List ℕ)) → Appends old new bytes →
    GivesBytes (record { gathered = []; written = old; failed = false }) bytes (record { gathered = []; written = new; failed = false })
tells_written bytes old new more = record {
  behind = λ before text told. (
    told.0 ++ bytes,
    Appends_then before old new told.0 bytes told.1 more,
    ap (λ (t : List ℕ). t ++ bytes) (told.2 ∙ append-nil told.0) ∙ sym (append-nil (told.0 ++ bytes)),
  );
}

-- bytes are given by a write that fails after a part of them
tells_part : (bytes : List ℕ) (n : ℕ) (old new : Option (List ℕ)) → Appends old new (take n bytes) →
    GivesBytes (record { gathered = []; written = old; failed = false }) bytes (record { gathered = []; written = new; failed = true })
tells_part bytes n old new more = record {
  behind = λ before text told.
      let part = told.0 in
      let whole : text ≡ part = told.2 ∙ append-nil part in
      let taken : take (length part + n) (text ++ bytes) ≡ part ++ take n bytes = ap (λ (t : List ℕ). take (length part + n) (t ++ bytes)) whole ∙ take-append-add part bytes n in
      (length part + n, subst (λ (t : List ℕ). Appends before new t) (sym taken) (Appends_then before old new part (take n bytes) told.1 more));
}

-- what is gathered is written, unless a write has failed before
pub tells_handed_on : (gathered : List ℕ) (written : Option (List ℕ)) (failed : Bool) (new : TextGiven) →
    GivesBytes (record { gathered = []; written = written; failed = failed }) gathered new → (failed ≡ true → new ≡ record { gathered = []; written = written; failed = true }) →
    GivesBytes (record { gathered = gathered; written = written; failed = failed }) [] new
tells_handed_on gathered written false new p stopped = record {
  behind = λ before text told.
      subst (λ (t : List ℕ). IsGiven before t new) (sym told.2 ∙ sym (append-nil text)) (p.behind before told.0 (told.0, told.1, sym (append-nil told.0)));
}
tells_handed_on gathered written true new p stopped = record {
  behind = λ before text told.
      subst (λ (s : TextGiven). IsGiven before (text ++ []) s) (sym (stopped refl)) (told.0, subst (λ (t : List ℕ). Appends before written (take told.0 t)) (sym (append-nil text)) told.1);
}

-- bytes are given by writing them, whether that succeeds or fails
pub tells_put : {T : Type 0} (bytes : List ℕ) (old new : Option (List ℕ)) (failed : Bool) (result : Result T OutcomeError) → OnOk result (Appends old new bytes) →
    OnErr result ((n : ℕ) × Appends old new (take n bytes)) → (IsErrOf result OutcomeError.Write ↔ (failed ≡ true)) → (IsErrOf result OutcomeError.OutOfMemory → ⊥) →
    GivesBytes (record { gathered = []; written = old; failed = false }) bytes (record { gathered = []; written = new; failed = failed })
tells_put bytes old new false (Ok u) whole part fault memory = tells_written bytes old new whole
tells_put {T} bytes old new true (Ok u) whole part fault memory = absurd (subst (λ (r : Result T OutcomeError). OnErr r ⊥) (fault.1 refl) tt)
tells_put bytes old new failed (Err OutcomeError.OutOfMemory) whole part fault memory = absurd (memory refl)
tells_put bytes old new failed (Err OutcomeError.Write) whole part fault memory =
    let after : Bool → TextGiven = λ b. record { gathered = []; written = new; failed = b } in
    subst (λ (b : Bool). GivesBytes (record { gathered = []; written = old; failed = false }) bytes (after b)) (sym (fault.0 refl)) (tells_part bytes part.0 old new part.1)

told_all : (bytes : List ℕ) (old new : Option (List ℕ)) (failed : Bool) → IsGiven old bytes (record { gathered = []; written = new; failed = failed }) →
    (failed ≡ false → Appends old new bytes) × (failed ≡ true → (n : ℕ) × Appends old new (take n bytes))
told_all bytes old new false told = (λ _. subst (Appends old new) (sym (told.2 ∙ append-nil told.0)) told.1, λ h. absurd (subst (λ (b : Bool). MatchBool b ⊥ ⊤) h tt))
told_all bytes old new true told = (λ h. absurd (subst (λ (b : Bool). MatchBool b ⊤ ⊥) h tt), λ _. told)

tells_all : (gathered bytes : List ℕ) (old new : Option (List ℕ)) (started failed : Bool) (middle : TextGiven) → gathered ≡ [] → started ≡ false →
    GivesBytes (record { gathered = gathered; written = old; failed = started }) bytes middle → GivesBytes middle [] (record { gathered = []; written = new; failed = failed }) →
    (failed ≡ false → Appends old new bytes) × (failed ≡ true → (n : ℕ) × Appends old new (take n bytes))
tells_all gathered bytes old new false failed middle none start p q =
    told_all bytes old new failed
    (subst (λ (t : List ℕ). IsGiven old t (record { gathered = []; written = new; failed = failed })) (append-nil bytes)
    (q.behind old bytes (p.behind old [] ([], Appends_none old, sym none))))
tells_all gathered bytes old new true failed middle none start p q = absurd (subst (λ (b : Bool). MatchBool b ⊤ ⊥) start tt)

-- what is given up to the end, with nothing left gathered, is written
pub tells_ok : {T : Type 0} (gathered bytes : List ℕ) (old new : Option (List ℕ)) (started failed : Bool) (middle : TextGiven) (result : Result T OutcomeError) →
    gathered ≡ [] → started ≡ false → GivesBytes (record { gathered = gathered; written = old; failed = started }) bytes middle →
    GivesBytes middle [] (record { gathered = []; written = new; failed = failed }) → OnOk result (failed ≡ false) → OnOk result (Appends old new bytes)
tells_ok gathered bytes old new started failed middle (Ok x) none start p q ok = (tells_all gathered bytes old new started failed middle none start p q).0 ok
tells_ok gathered bytes old new started failed middle (Err x) none start p q ok = tt

-- a part of it is written where a write has failed
pub tells_err : {T : Type 0} (gathered bytes : List ℕ) (old new : Option (List ℕ)) (started failed : Bool) (middle : TextGiven) (result : Result T OutcomeError) →
    gathered ≡ [] → started ≡ false → GivesBytes (record { gathered = gathered; written = old; failed = started }) bytes middle →
    GivesBytes middle [] (record { gathered = []; written = new; failed = failed }) →
    IfErr result (λ (error : OutcomeError). (error ≡ OutcomeError.Write) × (failed ≡ true)) → OnErr result ((n : ℕ) × Appends old new (take n bytes))
tells_err gathered bytes old new started failed middle (Ok x) none start p q fault = tt
tells_err gathered bytes old new started failed middle (Err x) none start p q fault = (tells_all gathered bytes old new started failed middle none start p q).1 fault.1
