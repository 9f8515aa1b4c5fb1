-- The names that several proofs of this crate take from elsewhere.
pub use Rattle.std.proofs.Common.{ℕ, ◌≡◌, ◌+◌, ◌<◌, ◌==◌, Bool, true, false, if◌then◌else◌, length, Some, refl, sym, ap, ◌∙◌, arith, Option, None, subst, ◌≤◌, List, [], ◌∷◌, rules, IfSome, IfNone, Result, Ok, Err, IfOk, IfErr, OnOk}
pub use Rattle.std.specs.{Option.{option_map_or, is_some}, Prelude.{slice_index, IsSome, nat_eq}}
pub use Rattle.std.proofs.lemmas.Bool.{ne_eqb, eq-eqb, eqb-true, eqb-false, le-ltb, false≢true, lt-ltb}
pub use Rattle.partial_words.specs.declared.block.Block.{Block}
pub use Rattle.partial_words.specs.declared.step.{Step.Step, Step.TheVariants.{Load, Store, Add}}
pub use Rattle.partial_words.specs.{Announcement.{announcement_block, announcement_size}, Layout.{pool_end, Layout}}
pub use Rattle.partial_embedded.specs.Embedded.{EmbeddedState, ViewGoesTogether, ViewPair}
pub use Rattle.partial_machine.specs.declared.stage.{Change.Change, Stage.Stage}
pub use Rattle.partial_machine.specs.declared.stage.Stage.TheVariants.{ScanBegun, StoringAnnouncement, GettingSet, Viewing, ClaimingRecord, Scanning, Leaving, Idle, StoringRecord, Exchanging}
pub use Rattle.partial_machine.specs.{Lines.{scan_begun, scan_step, set_begun, set_step, with_set, scan_asked}, Machine.{CoreState, advance, advance_at, at_stage, begin_joining, pool_refused, has_spare, claim_size, with_spare, into_spare, into_claim, fits_pool, own_pairs, step_of, getting, scanning, step_at, with_getting, with_scanning, record_size, record_words, view_at}, Sound.{IsSound, is_sound_at, AreComponentIndices}}
pub use Rattle.partial_core.specs.Part.{IsMarkedLike}
pub use Rattle.partial_lines.specs.{Lines.{announcing_scan, GetsOn, IsScanStage, IsViewDue, IsViewing, behind_scan, positions_at, set_kept, set_made, writing_stage, IsQuiet, HasReachedSet, gets_itself}, Replies.RestsLike}
