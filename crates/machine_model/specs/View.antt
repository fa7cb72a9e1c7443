-- What runs, and what a partition has of its own in it.
use Rattle.std.specs.Prelude.{ℕ, zero, suc, ◌==◌, ◌||◌, Bool, false, if◌then◌else◌, List, [], ◌∷◌, length, Option, Some, None, slice_get, slice_index_or}
use Rattle.xm_conf.specs.Configuration.{Chan, Conf, Part}
use Rattle.xm_conf.specs.View.{channel_of, link_of, sees}
use Rattle.xm_conf.specs.declared.conf.Seen.{Seen}
use Rattle.xm_conf.specs.declared.link.Link.{Link}
use Rattle.xef_images.specs.Image.{Image}
use Rattle.xm_ports.specs.Channels.{Shape, shape_of}
use Rattle.machine_model.specs.Lists.{is_number, table, then_some}

-- what runs: a configuration, an image for each partition, and the input words of each
pub record System : Type 0 where
  pub conf : Conf
  pub images : List Image
  pub inputs : List (List ℕ)

-- the channel of a port: its kind and the length of its messages, and the partition's own name for it
pub record PortChannel : Type 0 where
  pub shape : Shape
  pub name : ℕ

-- what a partition has of its own: its number, its entry of the configuration, its image and its input words,
-- the channel of each of its ports, the numbers of the links that go from it, and the two counts that a system partition sees
pub record PartitionView : Type 0 where
  pub id : ℕ
  pub part : Part
  pub image : Image
  pub inputs : List ℕ
  pub channels : List (Option PortChannel)
  pub links : List ℕ
  pub sees : Seen

-- the entry of a partition that is not there
abbrev pub no_part : Part
no_part = record {
  name = [];
  system = false;
  console = None;
  need = None;
  trace_mask = 0;
  hm = record { actions = []; logged = 0 };
  areas = [];
  ports = [];
}

-- the image of a partition that is not there
abbrev pub no_image : Image
no_image = record { entry = 0; segments = [] }

-- a partition's entry
unfoldable pub part_of : Conf → ℕ → Part
part_of conf p = slice_index_or conf.parts p no_part

-- the lowest of this many ports of partition p, from port r on, whose channel is channel c
abbrev pub name_from : Conf → ℕ → ℕ → ℕ → ℕ → Option ℕ
name_from conf p c zero r = None
name_from conf p c (suc count) r =
    if is_number (channel_of conf p r) c then Some r else name_from conf p c count (suc r)

-- partition p's name for channel c: its lowest port on the channel
unfoldable pub name_of : Conf → ℕ → ℕ → Option ℕ
name_of conf p c = name_from conf p c (length (part_of conf p).ports) 0

-- a channel, where it bears this name
abbrev pub if_named : Conf → ℕ → ℕ → Option ℕ → Option ℕ
if_named conf p q None = None
if_named conf p q (Some c) = then_some (is_number (name_of conf p c) q) c

-- the channel that partition p calls q
unfoldable pub named : Conf → ℕ → ℕ → Option ℕ
named conf p q = if_named conf p q (channel_of conf p q)

-- a channel and a name, where both are there
abbrev pub with_name : Option Chan → Option ℕ → Option PortChannel
with_name None name = None
with_name (Some chan) None = None
with_name (Some chan) (Some q) = Some (record { shape = shape_of chan; name = q })

-- a channel of partition p, where the port has one
abbrev pub with_its_name : Conf → ℕ → Option ℕ → Option PortChannel
with_its_name conf p None = None
with_its_name conf p (Some c) = with_name (slice_get conf.chans c) (name_of conf p c)

-- the channel of partition p's port r
unfoldable pub port_channel : Conf → ℕ → ℕ → Option PortChannel
port_channel conf p r = with_its_name conf p (channel_of conf p r)

-- the numbers of the links that go from partition p
abbrev pub numbers_of : ℕ → List Link → List ℕ
numbers_of p [] = []
numbers_of p (link ∷ links) = if link.source == p then link.number ∷ numbers_of p links else numbers_of p links

-- whether a number is one of these
abbrev pub has_number : List ℕ → ℕ → Bool
has_number [] number = false
has_number (one ∷ others) number = one == number || has_number others number

-- a partition that a link goes to, unless it is the one that the link goes from
abbrev pub unless_itself : ℕ → Option ℕ → Option ℕ
unless_itself p None = None
unless_itself p (Some dest) = if dest == p then None else Some dest

-- the other partition to which partition p's link of this number goes
unfoldable pub linked : Conf → ℕ → ℕ → Option ℕ
linked conf p number = unless_itself p (link_of conf p number)

-- what partition p has of its own
unfoldable pub view_of : System → ℕ → PartitionView
view_of system p = record {
  id = p;
  part = part_of system.conf p;
  image = slice_index_or system.images p no_image;
  inputs = slice_index_or system.inputs p [];
  channels = table (port_channel system.conf p) (length (part_of system.conf p).ports);
  links = numbers_of p system.conf.links;
  sees = sees system.conf p;
}
