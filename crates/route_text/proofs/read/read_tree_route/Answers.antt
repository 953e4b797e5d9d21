use Rattle.toml.specs.View.{view}
use Rattle.route_text.proofs.SizeLemmas.{sizes}
use Rattle.route_text.proofs.SoundLemmas.{sound}
use Rattle.route_text.proofs.read.read_tree_route.Goals as goal

pub route_of-requires : goal.route_of-requires
route_of-requires c =
    let found = c.in_ok-values.ensures in
    rw found.1 (sizes (view c.args.tree.now) found.0)

pub new-requires : goal.new-requires
new-requires c =
    let found = c.in_ok-values.ensures in
    rw (c.in_ok-route_of.ensures, found.1) (record { sound = sound (view c.args.tree.now) found.0 })
