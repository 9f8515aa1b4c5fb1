-- A port between two calls: how it begins one, and that it is between two again once that has ended.
use Rattle.partial_memory.proofs.{Common.{ℕ, ◌≡◌, ◌≤◌, ◌<◌, ◌==◌, true, false, if◌then◌else◌, Some, None, List, [], ◌∷◌, length, refl, sym, ap, subst, ◌∙◌, is_some, ne_eqb, lt-ltb, TableId, Call, Layout, IsLayout, Finished, ReadBegun, ScanBegun, CoreState, at_stage, IsServed, begin_scan, begun_of, call_of, makes_steps, refusal_of, core_scan_refusal, calls_begin, IsMarkedLike, core_of, port_of, FitsHistory, calls_begin_between, ports_come_between, About, SeatedPort, IsBadgeOfOne, AreByOpened, one_in, Begins, CallEnded, IsOf, IsResting, MemoryView, PortView, port_view, refusal, Reply, asking_machine, scan_asked, Refused, answers_of}, Ahead.run_ahead}
use Rattle.partial_model.specs.Refusals.{refusal_at_once}

-- a call that a port begins
pub record CallBegins (t : TableId) (x : SeatedPort) (b : CoreState) (c : Call) : Type 0 where
  pub begins : Begins b x
  pub call : call_of b ≡ Some c
  pub allowed : refusal (port_view t 0 x) c ≡ None

module _ (views : List (List SeatedPort)) (core : CoreState) (number : ℕ) (w : IsResting views core number) where
  pub refusal_here : (t : TableId) (c : Call) → refusal (port_view t 0 (one_in views)) c ≡ refusal_of core c
  refusal_here t c =
      let x = one_in views in
      let s : Layout = core.sizes in
      let pool : core.pool_spent ≡ (core_of x.part).pool_spent = w.between.like.pool in
      let slots : core.slots_spent ≡ (core_of x.part).slots_spent = w.between.like.slots in
      sym (ap (λ (z : Layout). refusal_at_once z.m core.pool_spent core.slots_spent c) w.sizes
      ∙ ap (λ p. refusal_at_once x.about.sizes.m p core.slots_spent c) pool
      ∙ ap (λ q. refusal_at_once x.about.sizes.m (core_of x.part).pool_spent q c) slots)

  pub call_begins : (t : TableId) (b : CoreState) (c : Call) → IsServed core.sizes.m c → refusal_of core c ≡ None → makes_steps c ≡ true → b ≡ begun_of core c →
      CallBegins t (one_in views) b c
  call_begins t b c served none some is =
      let x = one_in views in
      let from = calls_begin core c w.between.sound.asked served none in
      let between = calls_begin_between x.part core w.between in
      let begins : Begins (begun_of core c) x = record {
        begun = between.begins c served none some;
        ahead = ap (λ (s : CoreState). s.ahead) from.like ∙ w.ahead;
        sound = from.sound w.between.sound;
        layout = subst IsLayout (sym (ap (λ (s : CoreState). s.sizes) from.like)) w.layout;
        sizes = ap (λ (s : CoreState). s.sizes) from.like ∙ w.sizes;
      } in
      record {
        begins = subst (λ (s : CoreState). Begins s x) (sym is) begins;
        call = ap call_of is ∙ from.made some;
        allowed = refusal_here t c ∙ none;
      }

-- a read of a component that is there
below_none : (s : CoreState) (j : ℕ) → j < s.sizes.m → refusal_of s (Call.Read j) ≡ None
below_none s j below = ap (λ b. if b then None else Some Refused.Component) (lt-ltb j s.sizes.m below)

pub read_begins : (views : List (List SeatedPort)) (core : CoreState) (number : ℕ) → IsResting views core number → (t : TableId) (b : CoreState) (j : ℕ) → j < core.sizes.m →
    b ≡ at_stage core (ReadBegun j) → CallBegins t (one_in views) b (Call.Read j)
read_begins views core number w t b j below is = call_begins views core number w t b (Call.Read j) tt (below_none core j below) refl is

-- a scan of some positions
some_positions : (which : List ℕ) → (length which ≡ 0 → ⊥) → makes_steps (Call.Scan which) ≡ true
some_positions [] some = absurd (some refl)
some_positions (j ∷ js) some = refl

pub asked_begins : (core : CoreState) (which : List ℕ) → (length which ≡ 0 → ⊥) → scan_asked core which ≡ begin_scan core which
asked_begins core which some =
    let begins : (length which == 0) ≡ false = ne_eqb (length which) 0 some in
    sym (ap (λ b. at_stage (asking_machine core which) (if b then Finished (Reply.Scanned 0 None) else ScanBegun)) begins)

pub scan_begins : (views : List (List SeatedPort)) (core : CoreState) (number : ℕ) → IsResting views core number → (t : TableId) (b : CoreState) (which : List ℕ) → length which ≤ core.sizes.m →
    (length which ≡ 0 → ⊥) →
    core_scan_refusal core which ≡ None → b ≡ begin_scan core which → CallBegins t (one_in views) b (Call.Scan which)
scan_begins views core number w t b which served some none is = call_begins views core number w t b (Call.Scan which) served none (some_positions which some) is

-- a call has ended, and its port is between calls
pub rests : (views : List (List SeatedPort)) (b : CoreState) (x : SeatedPort) (r : Reply) (core : CoreState) (number : ℕ) → IsBadgeOfOne views → Begins b x →
    CallEnded b x r core (one_in views) → number ≡ port_of x.part → IsResting views core number
rests views b x r core number one begins e named =
    let y = one_in views in
    let c = e.machine in
    let m = e.made in
    let is = m.made.machine.is in
    let between = ports_come_between.1 x.about.sizes x.about.opening b x.part c y.part m.made (ap is_some e.replies) in
    let sizes : core.sizes ≡ x.about.sizes = e.like.sizes ∙ m.made.sizes in
    record {
      one = one;
      between = record { rest = between.rest; like = subst (λ (d : CoreState). IsMarkedLike d core) is e.like; idle = e.idle; sound = e.sound };
      ahead = e.ahead ∙ run_ahead b c (answers_of y.part.kept) begins.layout begins.sound m.made.run ∙ begins.ahead;
      layout = subst IsLayout (begins.sizes ∙ sym sizes) begins.layout;
      sizes = sizes ∙ ap (λ (o : About). o.sizes) (sym m.about);
      number = named ∙ sym m.made.port;
      fits = subst (λ (o : About). FitsHistory o.opening y.part.seen y.part) (sym m.about) m.made.fits;
      others = subst (λ (o : About). AreByOpened o y.part.seen) (sym m.about) m.others;
    }

-- a port stays one of its memory
pub same_memory : (t t' : TableId) (n : ℕ) (x y : SeatedPort) (p : PortView) (m : MemoryView) → port_view t n x ≡ p → IsOf m p → t' ≡ t → y.about ≡ x.about → IsOf m (port_view t' 0 y)
same_memory t t' n x y p m seen own table about =
    ap (λ (u : TableId). record { table = u; about = y.about }) table ∙ ap (λ (o : About). record { table = t; about = o }) about ∙ ap (λ (v : PortView). v.memory) seen ∙ own
