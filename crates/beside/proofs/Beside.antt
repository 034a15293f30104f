-- The theorems: after any acts the life stands (`keeps_all`), so a copy is of an event accepted (`copied_stood`), which further emissions leave one, and
-- confirming it settles it (`settles`).
use mathlib.Core.Path.{sym, subst}
use mathlib.Core.List.{List, ◌++◌}
use lib.ListN.{take}
use Rattle.reader_rules.specs.declared.Reader.{Reader}
use Rattle.history.specs.Ring.{Numbered}
use Rattle.promise.specs.Bytes.{Event, Made, made, accepted_of}
use Rattle.beside.specs.Life.{Held, Life, copy_now, confirm_now, after_emissions, through_acts, attached_after}
use Rattle.beside.specs.Beside.{Settles, Beside, HandedInOrder}
use Rattle.beside.proofs.Accepted.{accepted_more}
use Rattle.beside.proofs.Copies.{Stood, right_of, copied_stood}
use Rattle.beside.proofs.Confirms.{settles}
use Rattle.beside.proofs.Standing.{stood_more}
use Rattle.beside.proofs.Acts.{ground_of, keeps_emissions, keeps_all, begins}

pub beside : Beside
beside cpu capacity narrow fit buffer long turns first any acts copier out slip told further confirmer =
    let l : Life = through_acts (attached_after cpu buffer turns first any) acts in
    let i = keeps_all cpu capacity narrow fit buffer long acts (attached_after cpu buffer turns first any)
    (begins cpu capacity narrow fit buffer long turns first any) in
    let new : List Made = made l.state further in
    let m : Life = after_emissions l further in
    let j = keeps_emissions cpu capacity narrow fit buffer long l further i in
    let h : Held = record { slip = slip; front = take slip.size (copy_now l copier out).out } in
    let c = copied_stood (ground_of cpu capacity narrow fit buffer long l i) l.reader i.behind copier out slip told in
    let t : Stood cpu (accepted_of (l.calls ++ new)) h =
    subst (λ (all : List (Numbered Event)). Stood cpu all h) (sym (accepted_more l.calls new))
    (stood_more cpu (accepted_of l.calls) (accepted_of new) h c.0) in
    let g = ground_of cpu capacity narrow fit buffer long m j in
    subst (λ (r : Reader). Settles cpu capacity (l.calls ++ new) m.state slip h.front (confirm_now m.state confirmer r slip)) (sym c.3)
    (settles g h t l.reader (right_of g l.reader j.behind) confirmer c.1 c.2
    (λ later. ground_of cpu capacity narrow fit buffer long (after_emissions m later) (keeps_emissions cpu capacity narrow fit buffer long m later j)))

pub handed_in_order : HandedInOrder
handed_in_order cpu capacity narrow fit buffer long turns first any acts =
    (keeps_all cpu capacity narrow fit buffer long acts (attached_after cpu buffer turns first any)
    (begins cpu capacity narrow fit buffer long turns first any)).order
