-- A memory that is closed: the ports that were handed in, and the last state.
use Rattle.partial_memory.proofs.{Common.{around, ℕ, ◌≡◌, ◌++◌, List, [], ◌∷◌, length, map, refl, sym, ap, subst, ◌∙◌, append_assoc, append-nil, AllByRecursion, nil_from_length, some, get_elem?, State, Me, TableId, Applied, all_append, all_back, all_front, total, RecordsAreWithin, lawful_ports_fit, lawful_records_are_within, About, SeatedPort, AreByOpened, AreSeatedOf, IsIn, IsRuleKept, IsLawfulWith, IsShuffle, parts_of, MemoryView, PortView, port_view, without_steps, AreChains, AreValues, Closes, IsPortOf, Closed, ClosesLawfully}, Looks.{see_all, to_front}, Shuffles.put_elsewhere, Steps.entries_opened}

-- what a history says of a port is what the port knows of it
port_in : (t : TableId) (n : ℕ) (log : List Applied) (x : SeatedPort) → IsIn log x → IsPortOf log (port_view t n x)
port_in t n log x w = record { seen = w.seen; legal = w.fits.legal; once = w.fits.once }

-- The ports taken in so far, of all that were handed in, are those of the seat, of which callers saw the first one and then these.
pub record Taken (t : TableId) (port : PortView) (all rest : List PortView) (v : List SeatedPort) : Type 0 where
  pub taken : List PortView
  pub is : all ≡ rest ++ taken
  pub each : (log : List Applied) → AllByRecursion (IsIn log) v → IsPortOf log port × AllByRecursion (IsPortOf log) taken
  pub first : SeatedPort
  pub others : List SeatedPort
  pub shown : port_view t 0 first ≡ without_steps port
  pub others_shown : map (port_view t 0) others ≡ map without_steps taken
  pub order : (a all : List SeatedPort) → IsShuffle (v ++ a) all → IsShuffle (first ∷ (others ++ a)) all

pub taken_none : {S : Type 0} (me : Me S (List SeatedPort)) (t : TableId) (n : ℕ) (x : SeatedPort) (port : PortView) (all : List PortView) → me ≡ (x ∷ [], []) → port_view t n x ≡ port →
    Taken t port all all me.0
taken_none {S} me t n x port all is seen =
    let one = ap (λ (m : Me S (List SeatedPort)). m.0) is in
    record {
      taken = [];
      is = sym (append-nil all);
      each = λ log w. (subst (IsPortOf log) seen (port_in t n log x (subst (AllByRecursion (IsIn log)) one w).0), tt);
      first = x;
      others = [];
      shown = ap without_steps seen;
      others_shown = refl;
      order = λ a ys s. subst (λ (v : List SeatedPort). IsShuffle (v ++ a) ys) one s;
    }

pub taken_more : {S : Type 0} (me : Me S (List SeatedPort)) (t : TableId) (n : ℕ) (x : SeatedPort) (port p : PortView) (all rest less : List PortView) (v w : List SeatedPort) → Taken t port all rest v →
    rest ≡ less ++ p ∷ [] → me ≡ (x ∷ [], []) → port_view t n x ≡ p → w ≡ v ++ me.0 → Taken t port all less w
taken_more {S} me t n x port p all rest less v w had pop is seen join =
    let one : me.0 ≡ x ∷ [] = ap (λ (m : Me S (List SeatedPort)). m.0) is in
    record {
      taken = p ∷ had.taken;
      is = had.is ∙ ap (λ l. l ++ had.taken) pop ∙ append_assoc less (p ∷ []) had.taken;
      each = λ log looked.
          let both : AllByRecursion (IsIn log) (v ++ me.0) = subst (AllByRecursion (IsIn log)) join looked in
          let back = subst (AllByRecursion (IsIn log)) one (all_back (IsIn log) v me.0 both) in
          let g = had.each log (all_front (IsIn log) v me.0 both) in
          (g.0, (subst (IsPortOf log) seen (port_in t n log x back.0), g.1));
      first = had.first;
      others = x ∷ had.others;
      shown = had.shown;
      others_shown = ap (λ (q : PortView). without_steps q ∷ map (port_view t 0) had.others) seen ∙ ap (λ (l : List PortView). without_steps p ∷ l) had.others_shown;
      order = λ a ys s.
          let here : IsShuffle (v ++ (x ∷ a)) ys = subst (λ l. IsShuffle l ys) (ap (λ (l : List SeatedPort). l ++ a) (join ∙ ap (λ (l : List SeatedPort). v ++ l) one) ∙ append_assoc v (x ∷ []) a) s in
          put_elsewhere (had.first ∷ had.others) x a (had.first ∷ []) (had.others ++ a) ys refl (had.order (x ∷ a) ys here);
    }

-- the ports of a seat belong to one memory
pub own_one : {S : Type 0} (me : Me S (List SeatedPort)) (t : TableId) (n : ℕ) (x : SeatedPort) (p : PortView) (about : About) → me ≡ (x ∷ [], []) → port_view t n x ≡ p → p.memory.about ≡ about →
    AreSeatedOf about me.0
own_one {S} me t n x p about is seen own = subst (λ (m : Me S (List SeatedPort)). AreSeatedOf about m.0) (sym is) (ap (λ (q : PortView). q.memory.about) seen ∙ own, tt)

pub own_more : (v w both : List SeatedPort) (about : About) → AreSeatedOf about v → AreSeatedOf about w → both ≡ v ++ w → AreSeatedOf about both
own_more v w both about a b is = subst (AreSeatedOf about) (sym is) (all_append (λ (x : SeatedPort). x.about ≡ about) v w a b)

-- the last state: its words have the records of one history, which all ports of the seat have seen
pub record Ends (about : About) (words : List ℕ) (v : List SeatedPort) : Type 0 where
  pub log : List Applied
  pub records : RecordsAreWithin about.sizes about.opening words log
  pub others : AreByOpened about log
  pub each : AllByRecursion (IsIn log) v
  pub count : length words ≡ total about.sizes
  -- it is one of the words of a lawful state with that history, and the ports of the seat are among its ports
  pub lawful : IsLawfulWith about log v

pub ends : {S : Type 0} (about : About) (v : List SeatedPort) (id : ℕ) (words : List ℕ) (s : State S (List SeatedPort)) → IsRuleKept about s → get_elem? s.views id ≡ some v → s.words ≡ words →
    AreSeatedOf about v → Ends about words v
ends about v id words s kept at same own =
    let r = around s.views id v at in
    let seen = see_all about s.words kept.log r.before v r.behind kept.all own (subst (λ l. IsShuffle l kept.all) r.now kept.shuffle) kept.lawful kept.opened in
    let fit = lawful_ports_fit about.sizes about.opening s.words (parts_of kept.all) kept.log kept.lawful in
    let within = lawful_records_are_within about.sizes about.opening s.words (parts_of kept.all) kept.log kept.lawful in
    record {
      log = kept.log;
      records = subst (λ (l : List ℕ). RecordsAreWithin about.sizes about.opening l kept.log) same within;
      others = entries_opened about kept.all kept.log kept.opened fit.others;
      each = seen.each;
      count = ap length (sym same) ∙ kept.lawful.memory.count;
      lawful = record {
        words = s.words;
        others = r.before ++ r.behind;
        all = kept.all;
        shuffle = to_front r.before v r.behind kept.all (subst (λ l. IsShuffle l kept.all) r.now kept.shuffle);
        opened = kept.opened;
        lawful = kept.lawful;
      };
    }

pub closes : (m : MemoryView) (port : PortView) (all rest : List PortView) (v : List SeatedPort) (words : List ℕ) (closed : Closed) (n : ℕ) → (e : Ends m.about words v) →
    Taken m.table port all rest v →
    length rest ≡ 0 → n ≡ m.about.sizes.m →
    AreValues m.about.opening e.log n closed.values.items × AreChains m.about.opening e.log n closed.chains.items → ClosesLawfully m (port ∷ all) closed
closes m port all rest v words closed n e had empty count shown =
    let taken : all ≡ had.taken = had.is ∙ ap (λ l. l ++ had.taken) (nil_from_length rest empty) in
    let told = had.each e.log e.each in
    let sizes : n ≡ length m.about.opening.values = count ∙ sym e.records.values in
    let closes : Closes m (port ∷ all) closed = record {
      log = e.log;
      history = e.records.history;
      others = e.others;
      each = (told.0, subst (AllByRecursion (IsPortOf e.log)) (sym taken) told.1);
      values = subst (λ k. AreValues m.about.opening e.log k closed.values.items) sizes shown.0;
      chains = subst (λ k. AreChains m.about.opening e.log k closed.chains.items) sizes shown.1;
    } in (
      closes,
      record {
        words = e.lawful.words;
        here = had.first ∷ had.others;
        others = e.lawful.others;
        all = e.lawful.all;
        shown = ap (λ (p : PortView). p ∷ map (port_view m.table 0) had.others) had.shown ∙ ap (λ (l : List PortView). without_steps port ∷ l) (had.others_shown ∙ ap (map without_steps) (sym taken));
        shuffle = had.order e.lawful.others e.lawful.all e.lawful.shuffle;
        opened = e.lawful.opened;
        lawful = e.lawful.lawful;
      },
    )
