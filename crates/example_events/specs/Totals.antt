-- What a line adds to the totals.
use Rattle.std.specs.Prelude.{ℕ, ◌+◌, ◌-◌, ◌^◌, min}
use Rattle.example_events.specs.declared.event.Event.{Event}
use Rattle.example_events.specs.declared.event.Event.TheVariants.{Opened, PaidIn, PaidOut}
use Rattle.example_events.specs.declared.totals.Totals.{Totals}

-- a sum, as far as numbers go
abbrev pub plus : ℕ → ℕ → ℕ
plus a b = min (a + b) (2 ^ 64 - 1)

-- an event
abbrev pub with_event : Totals → Event → Totals
with_event totals (Opened account) =
    record totals { events = plus totals.events 1; opened = plus totals.opened 1 }
with_event totals (PaidIn account cents) =
    record totals { events = plus totals.events 1; paid_in = plus totals.paid_in cents }
with_event totals (PaidOut account cents _) =
    record totals { events = plus totals.events 1; paid_out = plus totals.paid_out cents }

-- a line that holds no event
abbrev pub with_fault : Totals → Totals
with_fault totals = record totals { damaged = plus totals.damaged 1 }
