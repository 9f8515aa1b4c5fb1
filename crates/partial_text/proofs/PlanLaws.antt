-- What is read as a plan is the plan's text.
use Rattle.partial_text.proofs.{Common.{◌≡◌, ℕ, ◌+◌, ◌<◌, ◌≤◌, Bool, true, if◌then◌else◌, ◌==◌, nat_lt, List, [], ◌∷◌, ◌++◌, length, codes, Ok, Err, refl, sym, ap, subst, ◌∙◌, append_assoc, inl, inr, arith, flat_map, AllByRecursion, bytes_eq, eqb-false, ltb-true, ltb-false, append-nil, length-append, bytes_eq-Decides, Call, until, from, pieces, ◌>>=◌, PlanView, sizes_line, initial_line, port_line, entry_text, field, rest_text, steps_line, ended_line, plan_text, IsCall, IsTurnEntry, IsPlan, Tail, fields_of, sizes_at, initial_at, port_line_at, entries_at, is_end, PlanError}, PieceLaws.{behind_each, behind_pieces, until_from}, FieldLaws.{bind_ok, if_ok, unless_ok, ok_is, with_word}, CallLaws.{port_ok, chosen}, LineLaws.{sizes_ok, initial_ok, entries_ok, from_is}}
use Rattle.partial_text.specs.declared.fault.Cause.{Cause}
use Rattle.partial_text.specs.Judging.{line_at, more_ports, last_at, tail_at, lines_judged, judged_plan}

-- the text that is cut into these pieces
abbrev pub text_of : List (List ℕ) → List ℕ
text_of [] = []
text_of (l ∷ ls) = l ++ behind_each 10 ls

text_from_behind : (ls : List (List ℕ)) (xs : List ℕ) → behind_each 10 ls ≡ 10 ∷ xs → text_of ls ≡ xs
text_from_behind [] xs h = absurd cc
text_from_behind (l ∷ ls) xs h = cc

pub text_of_pieces : (xs : List ℕ) → text_of (pieces 10 xs) ≡ xs
text_of_pieces xs = text_from_behind (pieces 10 xs) xs (behind_pieces 10 xs)

-- a line that is there is ended, and the others come after it
line_ok : (line : ℕ) (ls : List (List ℕ)) (x : List ℕ × List (List ℕ)) → line_at line ls ≡ Ok x → text_of ls ≡ ended_line x.0 ++ text_of x.1
unfolding line_at
line_ok line [] x e = absurd cc
line_ok line (l ∷ []) x e = absurd cc
line_ok line (l ∷ k ∷ ls) x e =
    subst (λ (y : List ℕ × List (List ℕ)). text_of (l ∷ k ∷ ls) ≡ ended_line y.0 ++ text_of y.1) (ok_is (l, k ∷ ls) x e) (sym (append_assoc l (10 ∷ []) (k ++ behind_each 10 ls)))

end_is : (ls : List (List ℕ)) → is_end ls ≡ true → text_of ls ≡ []
end_is [] h = absurd cc
end_is ([] ∷ []) h = refl
end_is ([] ∷ k ∷ ls) h = absurd cc
end_is ((x ∷ l) ∷ ls) h = absurd cc

abbrev pub ended_port : List Call → List ℕ
ended_port cs = ended_line (port_line cs)

-- the ports and the turns that lines give after the ports so far
pub record Tails (m : ℕ) (found : List (List Call)) (t : Tail) (ls : List (List ℕ)) : Type 0 where
  pub more : List (List Call)
  pub whole : t.ports ≡ found ++ more
  pub text : text_of ls ≡ flat_map ended_port more ++ ended_line (steps_line t.steps t.rest)
  pub calls : AllByRecursion (λ cs. AllByRecursion (IsCall m) cs) more
  pub some_port : 1 ≤ length t.ports
  pub few_ports : length found ≤ 64 → length t.ports ≤ 64
  pub steps : AllByRecursion (IsTurnEntry (length t.ports)) t.steps

-- the last line
last_ok : (line m : ℕ) (found : List (List Call)) (l : List ℕ) (behind : List (List ℕ)) (s : List (ℕ × ℕ) × Bool) → last_at line (length found) l behind ≡ Ok s
    → (ended_line l ++ text_of behind ≡ ended_line (steps_line s.0 s.1)) × (1 ≤ length found) × AllByRecursion (IsTurnEntry (length found)) s.0
unfolding last_at
last_ok line m found l behind s e =
    let n = length found in
    let a = if_ok (bytes_eq (until 32 l) (codes "steps")) _ (PlanError.Line line Cause.Word) s e in
    let b = unless_ok (n == 0) _ PlanError.Ports s a.1 in
    let c = bind_ok (entries_at line n [] (fields_of l)) (λ steps. if is_end behind then Ok steps else Err (PlanError.Line (line + 1) Cause.Extra)) s b.1 in
    let d = if_ok (is_end behind) (Ok c.0) (PlanError.Line (line + 1) Cause.Extra) s c.2 in
    let t = entries_ok line n [] (fields_of l) c.0 c.1 in
    let same : c.0 ≡ s = ok_is c.0 s d.1 in
    let turns : t.more ≡ s.0 = sym t.whole ∙ ap (λ (y : List (ℕ × ℕ) × Bool). y.0) same in
    let rest : c.0.1 ≡ s.1 = ap (λ (y : List (ℕ × ℕ) × Bool). y.1) same in
    let fields : behind_each 32 (fields_of l) ≡ flat_map (λ (e : ℕ × ℕ). field (entry_text e)) s.0 ++ rest_text s.1 = t.text ∙ rw (turns, rest) refl in
    let whole : l ≡ steps_line s.0 s.1 = with_word (codes "steps") l a.0 ∙ ap (λ (x : List ℕ). codes "steps" ++ x) fields ∙
    sym (append_assoc (codes "steps") (flat_map (λ (e : ℕ × ℕ). field (entry_text e)) s.0) (rest_text s.1)) in
    (ap (λ (x : List ℕ). ended_line l ++ x) (end_is behind d.0) ∙ append-nil (ended_line l) ∙ ap ended_line whole, omega (arith, eqb-false n 0 b.0), subst (AllByRecursion (IsTurnEntry n)) turns t.each)

-- a port line
more_ok : (line m : ℕ) (found all : List (List Call)) (l : List ℕ) → bytes_eq (until 32 l) (codes "port") ≡ true → more_ports m line found (from 32 l) ≡ Ok all
    → (cs : List Call) × (all ≡ found ++ cs ∷ []) × (l ≡ port_line cs) × AllByRecursion (IsCall m) cs × (length found < 64)
unfolding more_ports
more_ok line m found all l word e =
    let a = if_ok (nat_lt (length found) 64) (port_line_at m line (from 32 l) >>= λ cs. Ok (found ++ cs ∷ [])) PlanError.Ports all e in
    let b = bind_ok (port_line_at m line (from 32 l)) (λ (cs : List Call). Ok (found ++ cs ∷ [])) all a.1 in
    let p = port_ok line m (from 32 l) b.0 b.1 (from_is 32 l) in
    let front : until 32 l ≡ codes "port" = (bytes_eq-Decides (until 32 l) (codes "port")).0 word in
    (b.0, sym (ok_is (found ++ b.0 ∷ []) all b.2), sym (until_from 32 l) ∙ ap (λ (w : List ℕ). w ++ from 32 l) front ∙ sym p.0, p.1, ltb-true (length found) 64 a.0)

tail_ok : (line m : ℕ) (found : List (List Call)) (ls : List (List ℕ)) (t : Tail) → tail_at m line found ls ≡ Ok t → Tails m found t ls
unfolding tail_at
tail_ok line m found [] t e = absurd cc
tail_ok line m found (l ∷ []) t e = absurd cc
tail_ok line m found (l ∷ k ∷ ls) t e =
    let regroup : text_of (l ∷ k ∷ ls) ≡ ended_line l ++ text_of (k ∷ ls) = sym (append_assoc l (10 ∷ []) (k ++ behind_each 10 ls)) in
    elim (chosen (bytes_eq (until 32 l) (codes "port")) (more_ports m line found (from 32 l) >>= λ ports. tail_at m (line + 1) ports (k ∷ ls))
    (last_at line (length found) l (k ∷ ls) >>= λ steps. Ok (record { ports = found; steps = steps.0; rest = steps.1 })) (Ok t) e) [
      | inl h ↦
          let b = bind_ok (more_ports m line found (from 32 l)) (λ (ports : List (List Call)). tail_at m (line + 1) ports (k ∷ ls)) t h.1 in
          let p = more_ok line m found b.0 l h.0 b.1 in
          let r = tail_ok (line + 1) m b.0 (k ∷ ls) t b.2 in
          let one : length b.0 ≡ length found + 1 = ap length p.1 ∙ length-append found (p.0 ∷ []) in
          record {
            more = p.0 ∷ r.more;
            whole = r.whole ∙ ap (λ (x : List (List Call)). x ++ r.more) p.1 ∙ append_assoc found (p.0 ∷ []) r.more;
            text = regroup ∙ ap (λ (x : List ℕ). ended_line x ++ text_of (k ∷ ls)) p.2 ∙ ap (λ (x : List ℕ). ended_port p.0 ++ x) r.text ∙
                sym (append_assoc (ended_port p.0) (flat_map ended_port r.more) (ended_line (steps_line t.steps t.rest)));
            calls = (p.3, r.calls);
            some_port = r.some_port;
            few_ports = λ few. r.few_ports (omega (arith, one, p.4));
            steps = r.steps;
          }
      | inr h ↦
          let b = bind_ok (last_at line (length found) l (k ∷ ls)) (λ (steps : List (ℕ × ℕ) × Bool). Ok (record { ports = found; steps = steps.0; rest = steps.1 })) t h.1 in
          let q = last_ok line m found l (k ∷ ls) b.0 b.1 in
          let made : Tail = record { ports = found; steps = b.0.0; rest = b.0.1 } in
          subst (λ (y : Tail). Tails m found y (l ∷ k ∷ ls)) (ok_is made t b.2)
          (record { more = []; whole = sym (append-nil found); text = regroup ∙ q.0; calls = tt; some_port = q.1; few_ports = λ few. few; steps = q.2 })
    ]

-- what is read as a plan is lawful, and is the plan's text
pub judged_ok : (text : List ℕ) (p : PlanView) → judged_plan text ≡ Ok p → IsPlan p × (text ≡ plan_text p)
unfolding judged_plan lines_judged
judged_ok text p e =
    let u = unless_ok (nat_lt 4194304 (length text)) (lines_judged (pieces 10 text)) (PlanError.Line 0 Cause.Size) p e in
    let short : length text ≤ 4194304 = ltb-false 4194304 (length text) u.0 in
    let a = bind_ok (line_at 1 (pieces 10 text)) (λ first. sizes_at first.0 >>= λ sizes. line_at 2 first.1 >>= λ second. initial_at sizes.m second.0 >>= λ initial. tail_at sizes.m 3 [] second.1 >>=
    λ tail. Ok (record { sizes = sizes; initial = initial; ports = tail.ports; steps = tail.steps; rest = tail.rest })) p u.1 in
    let b = bind_ok (sizes_at a.0.0) (λ sizes. line_at 2 a.0.1 >>= λ second. initial_at sizes.m second.0 >>= λ initial. tail_at sizes.m 3 [] second.1 >>= λ tail. Ok
    (record { sizes = sizes; initial = initial; ports = tail.ports; steps = tail.steps; rest = tail.rest })) p a.2 in
    let c = bind_ok (line_at 2 a.0.1) (λ second. initial_at b.0.m second.0 >>= λ initial. tail_at b.0.m 3 [] second.1 >>= λ tail. Ok
    (record { sizes = b.0; initial = initial; ports = tail.ports; steps = tail.steps; rest = tail.rest })) p b.2 in
    let d = bind_ok (initial_at b.0.m c.0.0) (λ initial. tail_at b.0.m 3 [] c.0.1 >>= λ tail. Ok
    (record { sizes = b.0; initial = initial; ports = tail.ports; steps = tail.steps; rest = tail.rest })) p c.2 in
    let f = bind_ok (tail_at b.0.m 3 [] c.0.1) (λ tail. Ok (record { sizes = b.0; initial = d.0; ports = tail.ports; steps = tail.steps; rest = tail.rest })) p d.2 in
    let s = sizes_ok a.0.0 b.0 b.1 in
    let i = initial_ok b.0.m c.0.0 d.0 d.1 in
    let t = tail_ok 3 b.0.m [] c.0.1 f.0 f.1 in
    let made : PlanView = record { sizes = b.0; initial = d.0; ports = f.0.ports; steps = f.0.steps; rest = f.0.rest } in
    let first : text ≡ ended_line (sizes_line b.0) ++ text_of a.0.1 = sym (text_of_pieces text) ∙ line_ok 1 (pieces 10 text) a.0 a.1 ∙ ap (λ (l : List ℕ). ended_line l ++ text_of a.0.1) s.0 in
    let second : text_of a.0.1 ≡ ended_line (initial_line d.0) ++ text_of c.0.1 = line_ok 2 a.0.1 c.0 c.1 ∙ ap (λ (l : List ℕ). ended_line l ++ text_of c.0.1) i.0 in
    let ports : t.more ≡ f.0.ports = sym t.whole in
    let third : text_of c.0.1 ≡ flat_map ended_port f.0.ports ++ ended_line (steps_line f.0.steps f.0.rest) =
    t.text ∙ ap (λ (x : List (List Call)). flat_map ended_port x ++ ended_line (steps_line f.0.steps f.0.rest)) ports in
    let one = ended_line (sizes_line b.0) in
    let two = ended_line (initial_line d.0) in
    let three = flat_map ended_port f.0.ports in
    let four = ended_line (steps_line f.0.steps f.0.rest) in
    let whole : text ≡ plan_text made =
    first ∙ ap (λ (x : List ℕ). one ++ x) (second ∙ ap (λ (x : List ℕ). two ++ x) third) ∙ sym (append_assoc one two (three ++ four)) ∙ sym (append_assoc (one ++ two) three four) in
    let lawful : IsPlan made = record {
      sizes = s.1;
      initial = i.1;
      values = i.2;
      some_port = t.some_port;
      few_ports = t.few_ports (omega arith);
      calls = subst (AllByRecursion (λ cs. AllByRecursion (IsCall b.0.m) cs)) ports t.calls;
      steps = t.steps;
      short = subst (λ (x : List ℕ). length x ≤ 4194304) whole short;
    } in
    subst (λ (x : PlanView). IsPlan x × (text ≡ plan_text x)) (ok_is made p f.2) (lawful, whole)
