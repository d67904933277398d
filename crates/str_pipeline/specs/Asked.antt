-- The headline does not rest on this file.
-- What a device of this crate was asked to do, and what it has done.
use Rattle.std.specs.Prelude.{ℕ, Bool, false, nat_le, List, drop, Option, None, Some}
use Rattle.str_pipeline.specs.declared.counted.Counted.{Counted}
use Rattle.str_pipeline.specs.declared.empty_text.EmptyText.{EmptyText}
use Rattle.str_pipeline.specs.declared.faulty.Faulty.{Faulty}

-- the device of std whose calls are counted
abbrev pub device_of : {D : Type 0} → Counted D → D
device_of c = c.device

-- its calls
abbrev pub calls_of : {D : Type 0} → Counted D → ℕ
calls_of c = c.calls.number

-- those of them that failed
abbrev pub failures_of : {D : Type 0} → Counted D → ℕ
failures_of c = c.failed.number

-- whether the last of these was a write into a pipe that nobody reads any more
abbrev pub is_broken : {D : Type 0} → Counted D → Bool
is_broken c = c.is_broken_pipe

-- how many reads a text without bytes has had
abbrev pub reads_of : EmptyText → ℕ
reads_of e = e.calls.number

-- the most bytes in a call, the first bad call, whether bad calls take nothing in place of failing, and a writer's room
pub record Orders : Type 0 where
  pub piece : ℕ
  pub bad : Option ℕ
  pub is_silent : Bool
  pub room : ℕ

abbrev pub orders_of : Faulty → Orders
orders_of f = record { piece = f.piece; bad = f.bad; is_silent = f.is_silent; room = f.room }

-- whether call number n, the first being 1, is a bad one
abbrev pub is_bad_from : Option ℕ → ℕ → Bool
is_bad_from None n = false
is_bad_from (Some first) n = nat_le first n

abbrev pub is_bad_call : Orders → ℕ → Bool
is_bad_call orders n = is_bad_from orders.bad n

abbrev pub bytes_coming : Faulty → List ℕ
bytes_coming f = drop f.taken f.bytes.items

abbrev pub bytes_written : Faulty → List ℕ
bytes_written f = f.bytes.items

abbrev pub call_count : Faulty → ℕ
call_count f = f.calls.count.number

abbrev pub failure_count : Faulty → ℕ
failure_count f = f.failed.number
