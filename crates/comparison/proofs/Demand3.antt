-- The third demand of the bytes: on the rings without bytes that they follow it is proved.
use native.Mathlib.Omega.{arith}
use mathlib.Core.Path.{ap, ◌∙◌, subst₂}
use mathlib.Core.List.{List, map}
use Rattle.run_rules.specs.Runs.{EndPart}
use Rattle.history.proofs.IdealReading.{AllRead}
use Rattle.history.proofs.IdealServed.{start}
use Rattle.history.proofs.Ideal3.{Ideal3}
use Rattle.history.proofs.Served.{done, done_is}
use Rattle.history.proofs.Demand3.{Both, both_start, both_emission, both_emptying, promise3}
use Rattle.promise.specs.Bytes.{Event, size, encode}
use Rattle.promise.proofs.Encoding.{map_append}
use Rattle.comparison.specs.Emptying.{started}
use Rattle.comparison.specs.Comparison.{Half, Promise3, Demand3}
use Rattle.comparison.proofs.NewlyAttached.{positive}
use Rattle.comparison.proofs.Following.{follows_start}
use Rattle.comparison.proofs.Histories.{no_less}

end_map : {A B : Type 0} (f : A → B) (part all : List A) → EndPart part all → EndPart (map f part) (map f all)
end_map f part all end = record { front = map f end.front; split = ap (map f) end.split ∙ map_append f end.front part }

pub demand3 : Demand3
demand3 cpu c C narrow fit fits order buffer larger long longer any other steps =
    no_less cpu c C Half Promise3 (Both size c C) (λ w W i. i.small) (λ w W i. i.large)
    (λ w W e half unrefused taken i. both_emission size c C order w W e (record { half = omega (arith, half); smaller = unrefused; larger = taken }) i)
    (both_emptying size positive c C order)
    (λ w W i one two.
    let ideal : Ideal3 size (done size positive w) (done size positive W) =
    subst₂ (λ (d D : AllRead Event). Ideal3 size d D) (done_is size positive c w i.small) (done_is size positive C W i.large)
    (promise3 size positive c C order w W i) in
    record { end = end_map (encode cpu) (done size positive w).out (done size positive W).out ideal.end; misses = omega (arith, ideal.misses) })
    steps (started cpu buffer any) (started cpu larger other) start start
    (follows_start cpu c narrow fit buffer long any) (follows_start cpu C narrow fits larger longer other) (both_start size c C)
