-- `motion_reader::read_vector` meets its contract. Assumes nothing.
use mathlib.Core.Path.{◌≡◌, sym, ap, ap₂, ◌∙◌}
use Rattle.bitstream.specs.Reading.{got}
use lib.IntN.{ℤ}
use Rattle.motion_reader.specs.declared.VectorRead.TheVariants as vector-read
use Rattle.motion_reader.specs.Component.{component, as_vector}
use Rattle.motion_reader.proofs.Components.{kept, component_small, component_got, component_refused, vector_end, vector_cut, vector_sent}
use Rattle.motion_reader.proofs.read_vector.Goals as goal

pub returns-in-Refused : goal.returns-in-Refused
returns-in-Refused c = sym (ap as_vector (vector_end c.args.code c.args.packet.now c.args.at (component_refused (component c.args.code c.args.packet.now c.args.at) c.read_component-first.ensures c.in-Refused.is)))

pub returns-in-Refused-second : goal.returns-in-Refused-second
returns-in-Refused-second c =
    let x-got : component c.args.code c.args.packet.now c.args.at ≡ got c.in-Got.x c.in-Got.next =
    component_got (component c.args.code c.args.packet.now c.args.at) c.read_component-first.ensures c.in-Got.is in
    sym (ap as_vector (vector_cut c.args.code c.args.packet.now c.args.at (x-got) (component_refused (component c.args.code c.args.packet.now c.in-Got.next) c.read_component-second.ensures c.in-Refused-second.is)))

pub returns-in-Got-second : goal.returns-in-Got-second
returns-in-Got-second c =
    let x-got : component c.args.code c.args.packet.now c.args.at ≡ got c.in-Got.x c.in-Got.next =
    component_got (component c.args.code c.args.packet.now c.args.at) c.read_component-first.ensures c.in-Got.is in
    let y-got : component c.args.code c.args.packet.now c.in-Got.next ≡ got c.in-Got-second.y c.in-Got-second.end =
    component_got (component c.args.code c.args.packet.now c.in-Got.next) c.read_component-second.ensures c.in-Got-second.is in
    let ex = kept _ (component_small c.args.code c.args.packet.now c.args.at (x-got)) in let ey = kept _ (component_small c.args.code c.args.packet.now _ (y-got)) in ap₂ (λ (x y : ℤ). vector-read.Got (record { x = x; y = y }) c.in-Got-second.end) ex ey ∙ sym (ap as_vector (vector_sent c.args.code c.args.packet.now c.args.at (x-got) (y-got)))
