use Rattle.partial_text.proofs.Common.{◌≡◌, ◌+◌, ◌≤◌, false, length, Consumes}
use Rattle.partial_text.proofs.reading.read_text.Given as goal

abbrev pub invariant-loop : goal.invariant-loop
invariant-loop g l =
    record {
      clean : l.reader.failed ≡ false;
      taken : Consumes (g.R.Read.remaining l.initial.reader.inner) (g.R.Read.remaining l.reader.inner) l.text.items;
      many : l.counter ≤ length l.text.items;
      room : length l.chunk ≡ 8192;
      reads : l.reader.reads ≤ l.initial.reader.reads + l.counter;
    }
